-- The laws of cuts, each as one statement.
use Rattle.std.specs.Prelude.{◌≡◌, ℕ, ◌<◌, ◌≤◌, List, length, reverse}
use Rattle.cbdc_model.specs.Records.{Shape, Record, Row, last_stamp}
use Rattle.cbdc_model.specs.Ranges.{node_count}
use Rattle.cbdc_model.specs.Coins.{Output, FullTx}
use Rattle.cbdc_model.specs.Clean.{Clean}
use Rattle.cbdc_model.specs.World.{KeptJournals}
use Rattle.ledger_laws.specs.Sets.{Folds}
use Rattle.audit.specs.Rows.{Rises, journal_in}
use Rattle.audit.specs.declared.parts.PartVerdict.{PartVerdict}
use Rattle.audit.specs.Parts.{IsPartVerdict}
use Rattle.audit.specs.PartLaws.{IsFoldedPart}
use Rattle.cut_audit.specs.Cuts.{AreFronts, IsCutOf, IsKeptCut}

-- stamps rise along lists that were taken of kept journals, so `cut` gives their cut
abbrev pub FrontsLaw : Type 0
FrontsLaw = (K : Shape) (mint : List Output) (submissions : List FullTx) (X L : ℕ → List Record) → KeptJournals K mint submissions X
    → AreFronts K X L → (n : ℕ) → Rises (reverse (L n))

-- the cut of lists that were taken of kept journals, at a stamp that each of them comes up to, is kept
abbrev pub CutLaw : Type 0
CutLaw = (K : Shape) (mint : List Output) (submissions : List FullTx) (X L : ℕ → List Record) (s : ℕ) (rows : List Row) → 0 < K.shards
    → KeptJournals K mint submissions X → AreFronts K X L → ((n : ℕ) → n < node_count K → s ≤ last_stamp (L n)) → IsCutOf L s rows
    → IsKeptCut K mint submissions rows

-- what an audit says of it, where no hashes clash
pub record IsSoundCut (K : Shape) (mint : List Output) (submissions : List FullTx) (rows : List Row) : Type 0 where
  pub kept : IsKeptCut K mint submissions rows
  pub folds : Folds K mint submissions rows
  pub verdict : (v : PartVerdict) → IsPartVerdict K mint submissions (reverse rows) v → IsFoldedPart K mint submissions rows folds v

-- so it is of the cut of lists that were taken of kept journals
abbrev pub PartLaw : Type 0
PartLaw = (K : Shape) (mint : List Output) (submissions : List FullTx) (X L : ℕ → List Record) (s : ℕ) (rows : List Row) → 0 < K.shards
    → Clean mint submissions
    → KeptJournals K mint submissions X → AreFronts K X L → ((n : ℕ) → n < node_count K → s ≤ last_stamp (L n)) → IsCutOf L s rows
    → IsSoundCut K mint submissions rows

-- a kept history of the ledger, of which an audit finds nothing wrong where no hashes clash
pub record IsMomentOf (K : Shape) (mint : List Output) (submissions : List FullTx) (rows : List Row) : Type 0 where
  pub kept : IsKeptCut K mint submissions rows
  pub sound : Clean mint submissions → IsSoundCut K mint submissions rows

-- the rows are that of whatever ledger these lists were taken, one of each node with its oldest record first
abbrev pub IsMoment : List (List Record) → List Row → Type 0
IsMoment all rows = (K : Shape) (mint : List Output) (submissions : List FullTx) (X : ℕ → List Record) → 0 < K.shards → length all ≡ node_count K
    → KeptJournals K mint submissions X → AreFronts K X (λ n. reverse (journal_in all n)) → IsMomentOf K mint submissions rows
