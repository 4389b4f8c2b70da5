-- Where a submission went, and what became of it: the q-th sound submission of a lane, over all files of a run, is the q-th transaction
-- of the lane's new Prepares joined.
use Rattle.std.specs.Prelude.{ℕ, zero, suc, ◌-◌, nat_lt, List, [], ◌∷◌, length, Option, Some, None, if◌then◌else◌, ◌==◌}
use Rattle.cbdc_model.specs.Records.{Batch, Outcome, Record, outcomes_of, Prepare}

-- a batch and a place in it
pub record PlaceIn : Type 0 where
  pub batch : Batch
  pub at : ℕ

-- a batch that a lane's record prepares, with its number of transactions
pub record Sized : Type 0 where
  pub batch : Batch
  pub size : ℕ

-- the batch of a lane's Prepare put before others; other records name none
abbrev pub sized_before : ℕ → Record → List Sized → List Sized
sized_before lane (Prepare stamp b txs) others = if b.lane == lane then record { batch = b; size = length txs } ∷ others else others
sized_before lane other others = others

-- the batches of a lane's new Prepares, given the newest first, put before others, the oldest first
abbrev pub sized_onto : ℕ → List Record → List Sized → List Sized
sized_onto lane [] others = others
sized_onto lane (r ∷ more) others = sized_onto lane more (sized_before lane r others)

-- where the q-th transaction of these batches lies
abbrev pub place_of : List Sized → ℕ → Option PlaceIn
place_of [] q = None
place_of (s ∷ more) q = if nat_lt q s.size then Some (record { batch = s.batch; at = q }) else place_of more (q - s.size)

-- the outcome at a place
abbrev pub outcome_at : List Outcome → ℕ → Option Outcome
outcome_at [] k = None
outcome_at (o ∷ os) zero = Some o
outcome_at (o ∷ os) (suc k) = outcome_at os k

-- what the lane's coordinator wrote down of it
abbrev pub outcome_in : List Record → PlaceIn → Option Outcome
outcome_in J p = outcome_at (outcomes_of J p.batch) p.at
