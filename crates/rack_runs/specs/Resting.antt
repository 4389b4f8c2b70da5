-- Where each lane of a ledger stands behind a lane's fault.
use Rattle.std.specs.Prelude.{◌≡◌, ◌⊎◌, ℕ, ◌<◌, List}
use Rattle.cbdc_model.specs.Records.{Shape, Record}
use Rattle.cbdc_model.specs.Slots.{Idle}
use Rattle.ledger_runs.specs.Turning.{lane_phase, IsLaneOf}
use Rattle.ledger_runs.specs.Faults.{LaneRests, LaneWaits}

-- a lesser lane has an open batch
abbrev pub IsBehindOpen : Shape → ℕ → (ℕ → List Record) → Type 0
IsBehindOpen K lane X = (lesser : ℕ) × (lesser < lane) × (lane_phase K X lesser ≡ Idle → ⊥)

-- the lane rests, or it waits where it was: either it is told that memory ran out (`memory`), or a lesser lane has its batch open still
abbrev pub RestsBehind : Shape → ℕ → (ℕ → List Record) → (ℕ → List Record) → (ℕ → Type 0) → Type 0 → Type 0
RestsBehind K lane E X failed memory = LaneRests K lane X failed ⊎ ((memory ⊎ IsBehindOpen K lane X) × LaneWaits K lane E X)

-- each lane does so; or it is told that memory ran out, and nothing was written from journals E to X
abbrev pub AllRestBehind : Shape → (ℕ → List Record) → (ℕ → List Record) → (ℕ → Type 0) → Type 0 → Type 0
AllRestBehind K E X failed memory = (memory × ((n : ℕ) → X n ≡ E n)) ⊎ ((lane : ℕ) → IsLaneOf K lane → RestsBehind K lane E X failed memory)
