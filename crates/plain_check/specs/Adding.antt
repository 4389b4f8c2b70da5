-- What one node's journal, and a record of it, may be behind a stage of a run.
use Rattle.std.specs.Prelude.{◌≡◌, ℕ, Bool, true, false, List, ◌∷◌, ◌++◌, reverse}
use Rattle.cbdc_model.specs.Records.{Shape, Batch, Compact, Record, is_of}
use Rattle.cbdc_model.specs.Lanes.{IsEnd}
use Rattle.cbdc_model.specs.Waves.{IsCut, prepared, has_prepare, has_done}

-- the batches that a resuming may write records of are those that were open; those of a file are the ones that it prepared
abbrev pub MayAdd : Bool → Shape → (ℕ → List Record) → (ℕ → List Record) → Batch → Type 0
MayAdd true K I J b = (has_prepare K I b ≡ true) × (has_done K I b ≡ false)
MayAdd false K I J b = (has_prepare K I b ≡ false) × (has_prepare K J b ≡ true)

-- a record of such a batch
abbrev pub IsAdded : (Batch → Type 0) → Record → Type 0
IsAdded of r = (b : Batch) × (is_of b r ≡ true) × of b

-- a journal has grown by such records
pub record GrowsByNew (of : Batch → Type 0) (old new : List Record) : Type 0 where
  pub grows : IsEnd old new
  pub each : (newer rest : List Record) (r : Record) → new ≡ newer ++ r ∷ rest → IsEnd old rest → IsAdded of r

-- a lane's Prepares are the older ones, and behind them what it got, in pieces of a batch's size
abbrev pub PreparesInPieces : Shape → ℕ → List Compact → List Record → List Record → Type 0
PreparesInPieces K lane sent old new = (pieces : List (List Compact)) × IsCut K.batch sent pieces
    × (prepared lane new ≡ reverse pieces ++ prepared lane old)

-- the pieces of n that transactions are cut into stand behind what there was
abbrev pub AddsPieces : ℕ → List Compact → List (List Compact) → List (List Compact) → Type 0
AddsPieces n txs old new = (pieces : List (List Compact)) × IsCut n txs pieces × (new ≡ old ++ pieces)
