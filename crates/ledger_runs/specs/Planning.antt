-- The open batches of lanes, found and planned before the first is taken up.
use Rattle.std.specs.Prelude.{◌≡◌, ◌≢◌, ℕ, ◌*◌, ◌<◌, List, [], ◌∷◌, length, Option, Some, None, IfSome, slice_index_or}
use Rattle.cbdc_types.specs.declared.batch.OpenLane.{OpenLane}
use Rattle.cbdc_model.specs.Records.{Shape, Record}
use Rattle.cbdc_model.specs.Slots.{Idle}
use Rattle.cbdc_model.specs.Grammar.{HasSize}
use Rattle.recovery.specs.Planned.{PlanOf}
use Rattle.ledger_runs.specs.Turning.{lane_phase, IsLaneOf}

-- what was found of a lane is its open batch, of a size within the shape's limit; with none the lane is idle
pub record IsFound (K : Shape) (I : ℕ → List Record) (opens : ℕ → Option OpenLane) (lane : ℕ) (found : Option OpenLane) : Type 0 where
  pub told : found ≡ opens lane
  pub idle : found ≡ None → lane_phase K I lane ≡ Idle
  pub size : IfSome found (λ o. HasSize K o.txs)

-- what was found of each lane, in order
pub record AreFound (K : Shape) (I : ℕ → List Record) (opens : ℕ → Option OpenLane) (found : List (Option OpenLane)) : Type 0 where
  pub as_many : length found ≡ K.coordinators * K.lanes
  pub each : (lane : ℕ) → lane < length found → IsFound K I opens lane (slice_index_or found lane None)

-- a plan for the batch that was found, none where none was
abbrev pub IsPlanOf : Shape → Option OpenLane → Option PlanOf → Type 0
IsPlanOf K None None = Unit {0}
IsPlanOf K None (Some p) = ⊥
IsPlanOf K (Some o) None = ⊥
IsPlanOf K (Some o) (Some p) = p ≡ record { shape = K; lanes = o ∷ [] }

-- the open batches of the other lanes are what they were
abbrev pub KeepsOpens : Shape → ℕ → (ℕ → Option OpenLane) → (ℕ → Option OpenLane) → Type 0
KeepsOpens K lane before after = (other : ℕ) → IsLaneOf K other → other ≢ lane → after other ≡ before other
