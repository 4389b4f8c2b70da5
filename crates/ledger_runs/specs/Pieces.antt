-- The pieces of what a lane gets that it has prepared, and the one that is next.
use Rattle.std.specs.Prelude.{◌≡◌, ℕ, List, ◌∷◌, ◌++◌, reverse}
use Rattle.cbdc_model.specs.Records.{Shape, Compact, Record}
use Rattle.cbdc_model.specs.Ranges.{home_of}
use Rattle.cbdc_model.specs.Waves.{IsCut, prepared}
use Rattle.ledger_runs.specs.Waving.{EachLane}
use Rattle.ledger_runs.specs.Lanes.{LaneOf}

-- from journals I to J the lane has prepared these pieces, in order, and nothing else
abbrev pub HasPreparedPieces : Shape → ℕ → List (List Compact) → (ℕ → List Record) → (ℕ → List Record) → Type 0
HasPreparedPieces K lane pieces I J = prepared lane (J (home_of K lane)) ≡ reverse pieces ++ prepared lane (I (home_of K lane))

-- all that it gets, in pieces of a batch's size
abbrev pub HasPreparedAll : Shape → ℕ → List Compact → (ℕ → List Record) → (ℕ → List Record) → Type 0
HasPreparedAll K lane all I J = (pieces : List (List Compact)) × IsCut K.batch all pieces × HasPreparedPieces K lane pieces I J

-- the next of these pieces: the lane has prepared those before it
abbrev pub IsNextOf : Shape → ℕ → List (List Compact) → (ℕ → List Record) → (ℕ → List Record) → List Compact → Type 0
IsNextOf K lane pieces I J txs = (done : List (List Compact)) × (more : List (List Compact)) × (pieces ≡ done ++ txs ∷ more)
    × HasPreparedPieces K lane done I J

-- the next piece of what the lane gets
abbrev pub IsNextPiece : Shape → ℕ → List Compact → (ℕ → List Record) → (ℕ → List Record) → List Compact → Type 0
IsNextPiece K lane all I J txs = (pieces : List (List Compact)) × IsCut K.batch all pieces × IsNextOf K lane pieces I J txs

-- each lane has prepared all of them
abbrev pub HavePreparedAll : Shape → (ℕ → List Record) → (ℕ → List Record) → List LaneOf → Type 0
HavePreparedAll K I J lanes = EachLane (λ lane x. HasPreparedAll K lane x.txs I J) lanes

-- ---- whether a lane has stopped or not

-- the first of the pieces of what the lane gets, in order, and nothing else
abbrev pub HasBegun : Shape → ℕ → List Compact → (ℕ → List Record) → (ℕ → List Record) → Type 0
HasBegun K lane all I J = (done : List (List Compact)) × (more : List (List Compact)) × IsCut K.batch all (done ++ more)
    × HasPreparedPieces K lane done I J

-- each lane has begun with what it gets
abbrev pub HaveBegun : Shape → (ℕ → List Record) → (ℕ → List Record) → List LaneOf → Type 0
HaveBegun K I J lanes = EachLane (λ lane x. HasBegun K lane x.txs I J) lanes
