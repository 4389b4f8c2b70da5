-- Cuts: all records up to a stamp. Journals have their newest record first here, but lists of code their oldest.
use Rattle.std.specs.Prelude.{◌≡◌, ℕ, ◌<◌, ◌≤◌, nat_lt, List, [], ◌∷◌, length, reverse, if◌then◌else◌}
use Rattle.cbdc_model.specs.Records.{Shape, Record, Row, journal, stamp_of, last_stamp}
use Rattle.cbdc_model.specs.Ranges.{node_count}
use Rattle.cbdc_model.specs.Coins.{Output, FullTx}
use Rattle.cbdc_model.specs.History.{minted, history_of, IsKept, IsOrdered}
use Rattle.cbdc_model.specs.Lanes.{IsEnd}
use Rattle.ledger_laws.specs.Reach.{Reached}
use Rattle.audit.specs.Rows.{journal_in}

-- the records up to a stamp
abbrev pub up_to : ℕ → List Record → List Record
up_to s [] = []
up_to s (r ∷ J) = if nat_lt s (stamp_of r) then up_to s J else r ∷ up_to s J

-- the rows up to a stamp
abbrev pub rows_up_to : ℕ → List Row → List Row
rows_up_to s [] = []
rows_up_to s (row ∷ rows) = if nat_lt s (stamp_of row.what) then rows_up_to s rows else row ∷ rows_up_to s rows

-- the stamp of the last record of a node's list
abbrev pub last_in : List (List Record) → ℕ → ℕ
last_in all n = last_stamp (reverse (journal_in all n))

-- it is the least stamp of a last record
pub record IsLeastLast (all : List (List Record)) (s : ℕ) : Type 0 where
  pub below : (n : ℕ) → n < length all → s ≤ last_in all n
  pub one : (n : ℕ) × (n < length all) × (s ≡ last_in all n)

-- lists that were taken of a ledger's journals at some moments: each is what its journal was then, and none is empty
pub record AreFronts (K : Shape) (X L : ℕ → List Record) : Type 0 where
  pub ends : (n : ℕ) → IsEnd (L n) (X n)
  pub some : (n : ℕ) → n < node_count K → 0 < length (L n)

-- the rows, the newest of which is the first, are all records up to a stamp of these lists, in order
pub record IsCutOf (L : ℕ → List Record) (s : ℕ) (rows : List Row) : Type 0 where
  pub ordered : IsOrdered rows
  pub lists_are : (n : ℕ) → journal n rows ≡ up_to s (L n)

-- the rows are a kept history of the ledger, and what a run of it leaves from the first world on
pub record IsKeptCut (K : Shape) (mint : List Output) (submissions : List FullTx) (rows : List Row) : Type 0 where
  pub later : List Row
  pub rows_are : rows ≡ history_of K mint later
  pub ordered : IsOrdered later
  pub kept : IsKept K mint submissions later
  pub reached : Reached K (minted mint) later
