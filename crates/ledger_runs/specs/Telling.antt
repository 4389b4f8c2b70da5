-- What lanes tell of their batches: what was decided of each transaction, by what their coordinators wrote down.
use Rattle.std.specs.Prelude.{◌≡◌, ℕ, zero, suc, ◌<◌, List, [], ◌∷◌, ◌++◌, map, min, length, Option, Some, None, slice_get}
use Rattle.cbdc_model.specs.Records.{Shape, Batch, Outcome, Record, outcomes_of}
use Rattle.cbdc_model.specs.Slots.{Idle}
use Rattle.cbdc_model.specs.Ranges.{home_of}
use Rattle.cbdc_model.specs.Due.{open_batch}
use Rattle.cbdc_model.specs.Waves.{prepared}
use Rattle.cbdc_model.specs.Places.{Sized, sized_onto}
use Rattle.recovery.specs.declared.resumed.ResumedBatch.{ResumedBatch}
use Rattle.recovery.specs.Open.{phase_of}
use Rattle.ledger_runs.specs.Turning.{lane_phase, none_or_one, TookUp}
use Rattle.ledger_runs.specs.Waving.{EachLane}
use Rattle.ledger_runs.specs.declared.lanes.Decided.{Decided}
use Rattle.ledger_runs.specs.Lanes.{LaneOf}
use Rattle.ledger_runs.specs.declared.lanes.Lane.{Lane}

-- ---- batches that were open

-- the batch is the lane's open one
abbrev pub IsLanesOpenBatch : Shape → ℕ → (ℕ → List Record) → Option ResumedBatch → Type 0
IsLanesOpenBatch K lane I None = Unit {0}
IsLanesOpenBatch K lane I (Some r) = r.batch ≡ open_batch (I (home_of K lane)) lane

-- a lane's batch that was open in journals E: which it is, the phase in which it stood, and what is decided of it in journals X
pub record TellsResumed (K : Shape) (lane : ℕ) (E X : ℕ → List Record) (r : ResumedBatch) : Type 0 where
  pub batch_is : r.batch ≡ open_batch (E (home_of K lane)) lane
  pub phase_is : phase_of r.phase ≡ lane_phase K E lane
  pub outcomes_are : r.outcomes ≡ outcomes_of (X (home_of K lane)) r.batch

-- what is told of a lane from journals E to X: nothing where it was idle, else its open batch (`TellsResumed`)
abbrev pub IsResumedAt : Shape → ℕ → (ℕ → List Record) → (ℕ → List Record) → Option ResumedBatch → Type 0
IsResumedAt K lane E X None = lane_phase K E lane ≡ Idle
IsResumedAt K lane E X (Some r) = TellsResumed K lane E X r

-- one of each lane below n that was open, in rising order
abbrev pub TellResumed : Shape → (ℕ → List Record) → (ℕ → List Record) → ℕ → List ResumedBatch → Type 0
TellResumed K E X zero rs = rs ≡ []
TellResumed K E X (suc lane) rs = (before : List ResumedBatch) × (found : Option ResumedBatch) × TellResumed K E X lane before
    × IsResumedAt K lane E X found × (rs ≡ before ++ none_or_one found)

-- the result of a lane's open batch is kept behind the result of others
abbrev pub TakesUp : Shape → ℕ → (ℕ → List Record) → (ℕ → List Record) → List ResumedBatch → List ResumedBatch → Type 0
TakesUp K lane I J before after = (found : Option ResumedBatch) × TookUp K lane I J found × IsLanesOpenBatch K lane I found
    × (after ≡ before ++ none_or_one found)

-- no lane has a new Prepare
abbrev pub SamePrepared : Shape → (ℕ → List Record) → (ℕ → List Record) → Type 0
SamePrepared K I J = (lane : ℕ) → prepared lane (J (home_of K lane)) ≡ prepared lane (I (home_of K lane))

-- ---- what is decided of transactions

-- the outcomes of a batch, each with the batch
abbrev pub decided_in : Batch → List Outcome → List (Batch × Outcome)
decided_in b os = map (λ o. (b, o)) os

-- what a journal J decides of the transactions of batches, in order
abbrev pub decided_of : List Record → List Sized → List (Batch × Outcome)
decided_of J [] = []
decided_of J (s ∷ more) = decided_in s.batch (outcomes_of J s.batch) ++ decided_of J more

-- each batch has a transaction, and an outcome for each
abbrev pub AreDecided : List Record → List Sized → Type 0
AreDecided J [] = Unit {0}
AreDecided J (s ∷ more) = (0 < s.size) × (length (outcomes_of J s.batch) ≡ s.size) × AreDecided J more

-- what is kept of these batches: what was decided of each of their transactions, in order, and how many batches they are, as far as 64 bits count
pub record KeepsDecided (J : List Record) (S : List Sized) (kept : List (Batch × Outcome)) (count : ℕ) : Type 0 where
  pub decided : kept ≡ decided_of J S
  pub each : AreDecided J S
  pub count_is : count ≡ min (length S) 18446744073709551615

-- what a lane keeps, each with its batch
abbrev pub kept_by : List Decided → List (Batch × Outcome)
kept_by ds = map (λ d. (d.batch, d.outcome)) ds

-- the same of all records that came
abbrev pub TellsNew : Shape → (ℕ → List Record) → (ℕ → List Record) → ℕ → Lane → Type 0
TellsNew K I J lane x = (more : List Record) → J (home_of K lane) ≡ more ++ I (home_of K lane)
    → KeepsDecided (J (home_of K lane)) (sized_onto lane more []) (kept_by x.decided.items) x.batches

-- so have all lanes
abbrev pub AllTellNew : Shape → (ℕ → List Record) → (ℕ → List Record) → List Lane → Type 0
AllTellNew K I J lanes = (lane : ℕ) (x : Lane) → slice_get lanes lane ≡ Some x → TellsNew K I J lane x

-- no lane has done anything
abbrev pub AreLanesFresh : List LaneOf → Type 0
AreLanesFresh lanes = EachLane (λ lane x. (x.decided.items ≡ []) × (x.batches ≡ 0)) lanes
