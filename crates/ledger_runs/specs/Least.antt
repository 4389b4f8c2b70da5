-- Whose fault ends a wave: the least lane's that met one.
use Rattle.std.specs.Prelude.{◌≡◌, ◌⊎◌, ℕ, ◌<◌, List, None}
use Rattle.cbdc_model.specs.Records.{Shape, Compact, Record}
use Rattle.cbdc_model.specs.Slots.{Idle}
use Rattle.lane_driver.specs.declared.fault.LaneFault.{LaneFault}
use Rattle.lane_driver.specs.declared.fault.LaneFaultKind.TheVariants.{Memory as NoMemory}
use Rattle.ledger_runs.specs.Turning.{lane_phase, IsLaneOf}
use Rattle.ledger_runs.specs.Waving.{EachLane}
use Rattle.ledger_runs.specs.Pieces.{HasPreparedAll}
use Rattle.ledger_runs.specs.Faults.{IsLaneCause, IsOpenCause}
use Rattle.ledger_runs.specs.Lanes.{LaneOf}

-- from journals I to J the lane has prepared all that it got, in pieces of a batch's size and in order, and is idle
abbrev pub LaneHasRun : Shape → ℕ → List Compact → (ℕ → List Record) → (ℕ → List Record) → Type 0
LaneHasRun K lane all I J = HasPreparedAll K lane all I J × (lane_phase K J lane ≡ Idle)

-- so has each lane that met no fault
abbrev pub RunTheirs : Shape → (ℕ → List Record) → (ℕ → List Record) → List LaneOf → Type 0
RunTheirs K I J lanes = EachLane (λ lane x. x.fault ≡ None → LaneHasRun K lane x.txs I J) lanes

-- the fault is a lane's, has its cause, and each lesser lane has run all that it got
pub record IsLeastFault (K : Shape) (sent : ℕ → List Compact) (next : ℕ → List Compact → Type 0) (I J : ℕ → List Record) (failed : ℕ → Type 0)
    (may_hold : ℕ → ℕ → Type 0) (e : LaneFault) : Type 0 where
  pub lane : ℕ
  pub is_lane : IsLaneOf K lane
  pub cause : IsLaneCause K lane (next lane) I J failed may_hold e
  pub lesser : (other : ℕ) → other < lane → LaneHasRun K other (sent other) I J

-- memory ran out before anything was done
abbrev pub IsUnbegunForMemory : (ℕ → List Record) → (ℕ → List Record) → LaneFault → Type 0
IsUnbegunForMemory I J e = (e.fault ≡ NoMemory) × ((n : ℕ) → J n ≡ I n)

-- of lanes that were open: the fault is a lane's, has its cause, and all lesser lanes are idle
abbrev pub IsFirstOpenFault : Shape → (ℕ → List Record) → (ℕ → List Record) → (ℕ → Type 0) → (ℕ → ℕ → Type 0) → LaneFault → Type 0
IsFirstOpenFault K I J failed may_hold e = (lane : ℕ) × IsLaneOf K lane × IsOpenCause K lane I J failed may_hold e
    × ((other : ℕ) → other < lane → lane_phase K J other ≡ Idle)

-- that, or `IsUnbegunForMemory`
abbrev pub IsLeastOpen : Shape → (ℕ → List Record) → (ℕ → List Record) → (ℕ → Type 0) → (ℕ → ℕ → Type 0) → LaneFault → Type 0
IsLeastOpen K I J failed may_hold e = IsUnbegunForMemory I J e ⊎ IsFirstOpenFault K I J failed may_hold e
