-- The lanes of a wave.
use Rattle.std.specs.Prelude.{◌≡◌, ℕ, ◌<◌, List, All, Option, Some, None, slice_get}
use Rattle.cbdc_model.specs.Records.{Shape, Compact, Record}
use Rattle.cbdc_model.specs.Grammar.{IsCompact}
use Rattle.cbdc_model.specs.Coins.{Output, FullTx}
use Rattle.cbdc_model.specs.Clean.{IsProperCompact}
use Rattle.lane_driver.specs.declared.fault.LaneFault.{LaneFault}
use Rattle.ledger_runs.specs.Turning.{IsLaneOf, OfKept, StaysKept}
use Rattle.ledger_runs.specs.Lanes.{LaneOf}

-- the lane at each place has the property
abbrev pub EachLane : (ℕ → LaneOf → Type 0) → List LaneOf → Type 0
EachLane P lanes = (lane : ℕ) (x : LaneOf) → slice_get lanes lane ≡ Some x → P lane x

-- what each lane gets
abbrev pub HaveSent : (ℕ → List Compact) → List LaneOf → Type 0
HaveSent sent lanes = EachLane (λ lane x. x.txs ≡ sent lane) lanes

-- each transaction is within the limits
abbrev pub AreWithin : List LaneOf → Type 0
AreWithin lanes = EachLane (λ lane x. All IsCompact x.txs) lanes

-- no lane has stopped
abbrev pub NoFault : List LaneOf → Type 0
NoFault lanes = EachLane (λ lane x. x.fault ≡ None) lanes

-- the fault of the least lane that has one
abbrev pub FirstFaultIs : List LaneOf → Option LaneFault → Type 0
FirstFaultIs lanes None = NoFault lanes
FirstFaultIs lanes (Some fault) =
    (lane : ℕ) × (x : LaneOf) × (slice_get lanes lane ≡ Some x) × (x.fault ≡ Some fault)
    × ((k : ℕ) (y : LaneOf) → k < lane → slice_get lanes k ≡ Some y → y.fault ≡ None)

-- all that the lanes get are compact forms of proper submissions
abbrev pub AllProper : Shape → (ℕ → List Compact) → List FullTx → Type 0
AllProper K sent submissions = (lane : ℕ) → IsLaneOf K lane → All (IsProperCompact submissions) (sent lane)

-- kept journals stay kept, where all that the lanes get is proper
abbrev pub KeepsSent : Shape → (ℕ → List Compact) → (ℕ → List Record) → (ℕ → List Record) → List Output → List FullTx → Type 0
KeepsSent K sent I J mint submissions = AllProper K sent submissions → StaysKept K I J mint submissions

-- of a wave of which no lane stopped, where the journals are kept and all that the lanes get is proper
abbrev pub OfSent : Shape → (ℕ → List Record) → List LaneOf → List LaneOf → Type 0 → Type 0
OfSent K I before now P = (sent : ℕ → List Compact) → HaveSent sent before → NoFault now
    → OfKept K I (λ _ submissions. AllProper K sent submissions → P)
