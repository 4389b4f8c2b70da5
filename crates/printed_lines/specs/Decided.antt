-- What a run decided of the transactions of a lane's new Prepares.
use Rattle.std.specs.Prelude.{ℕ, zero, suc, ◌+◌, ◌-◌, ◌*◌, List, [], length, take, Option, Some, None, option_map}
use Rattle.cbdc_model.specs.Records.{Shape, Batch, Outcome, Record}
use Rattle.cbdc_model.specs.Ranges.{home_of}
use Rattle.cbdc_model.specs.Waves.{prepared}
use Rattle.cbdc_model.specs.Places.{PlaceIn, sized_onto, place_of, outcome_in}

-- those records of a journal J that came since it was I
abbrev pub added : List Record → List Record → List Record
added I J = take (length J - length I) J

-- the batch of a place, and the outcome that its coordinator wrote down there
abbrev pub decided_there : List Record → Option PlaceIn → Option (Batch × Outcome)
decided_there J None = None
decided_there J (Some p) = option_map (λ o. (p.batch, o)) (outcome_in J p)

-- those of the q-th transaction of a lane's new Prepares joined, by the journals E at entry and X at exit
abbrev pub decided_at : Shape → (ℕ → List Record) → (ℕ → List Record) → ℕ → ℕ → Option (Batch × Outcome)
decided_at K E X lane q = decided_there (X (home_of K lane)) (place_of (sized_onto lane (added (E (home_of K lane)) (X (home_of K lane))) []) q)

-- how many new Prepares the lanes below n have, from journals E to X
abbrev pub batches_below : Shape → (ℕ → List Record) → (ℕ → List Record) → ℕ → ℕ
batches_below K E X zero = 0
batches_below K E X (suc lane) = batches_below K E X lane + length (prepared lane (added (E (home_of K lane)) (X (home_of K lane))))

-- how many new Prepares all lanes have, from journals E to X
abbrev pub new_batches : Shape → (ℕ → List Record) → (ℕ → List Record) → ℕ
new_batches K E X = batches_below K E X (K.coordinators * K.lanes)
