-- What is in flight at the nodes of a ledger: records that failed calls may have left on their disks or not.
use Rattle.std.specs.Prelude.{◌≡◌, ◌⊎◌, ℕ, List, [], Option, Some, slice_get}
use Rattle.cbdc_model.specs.Records.{Shape, Batch, Compact, Record, Prepare}
use Rattle.cbdc_model.specs.Coins.{Output, FullTx}
use Rattle.run_laws.specs.Flights.{MayCome}
use Rattle.ledger_runs.specs.Turning.{IsLaneOf}
use Rattle.ledger_runs.specs.Waving.{AllProper}
use Rattle.ledger_runs.specs.Pieces.{HasPreparedPieces, IsNextPiece}
use Rattle.ledger_runs.specs.Lanes.{LaneOf}

-- each may come next at its node of these journals
abbrev pub AllMayCome : Shape → List Output → List FullTx → (ℕ → List Record) → (ℕ → Option Record) → Type 0
AllMayCome K mint submissions J flights = (n : ℕ) (r : Record) → flights n ≡ Some r → MayCome K mint submissions J n r

-- from journals I to J that stays so
abbrev pub FliesOn : Shape → (ℕ → List Record) → (ℕ → List Record) → (ℕ → Option Record) → (ℕ → Option Record) → List Output → List FullTx → Type 0
FliesOn K I J before after mint submissions = AllMayCome K mint submissions I before → AllMayCome K mint submissions J after

-- where all that the lanes get are
abbrev pub FliesSent : Shape → (ℕ → List Compact) → (ℕ → List Record) → (ℕ → List Record) → (ℕ → Option Record) → (ℕ → Option Record) → List Output
    → List FullTx → Type 0
FliesSent K sent I J before after mint submissions = AllProper K sent submissions → FliesOn K I J before after mint submissions

-- ---- Prepares in flight

-- from journals I to J each was in flight before, and its lane has prepared nothing; or it is of transactions that are next for its lane
abbrev pub Launches : Shape → (ℕ → List Compact → Type 0) → (ℕ → List Record) → (ℕ → List Record) → (ℕ → Option Record) → (ℕ → Option Record) → Type 0
Launches K next I J before after = (n t : ℕ) (b : Batch) (txs : List Compact) → after n ≡ Some (Prepare t b txs)
    → ((before n ≡ Some (Prepare t b txs)) × HasPreparedPieces K b.lane [] I J) ⊎ (IsLaneOf K b.lane × next b.lane txs)

-- for each lane the next piece of what it gets is
abbrev pub AreNextPieces : Shape → List LaneOf → (ℕ → List Record) → (ℕ → List Record) → ℕ → List Compact → Type 0
AreNextPieces K lanes I J lane txs = (x : LaneOf) → slice_get lanes lane ≡ Some x → IsNextPiece K lane x.txs I J txs
