-- Which places of a history are caused.
use Rattle.std.specs.Prelude.{◌≡◌, ℕ, true, List, [], ◌∷◌, ◌++◌, All, length, reverse, is_some}
use Rattle.cbdc_model.specs.After.{After}
use Rattle.cbdc_model.specs.Coins.{Output, FullTx}
use Rattle.cbdc_model.specs.Clean.{IsProperCompact}
use Rattle.cbdc_model.specs.History.{Minted, minted, header_of, first_rows, history_of, TxsPass, IsKept}
use Rattle.cbdc_model.specs.Records.{Shape, Compact, Record, Row, journal, record_of, Prepare, done_kind}
use Rattle.cbdc_model.specs.Ranges.{home_of}
use Rattle.cbdc_model.specs.Causes.{IsCaused}

-- the row is caused by the rows before it, the newest of which is the first
abbrev pub IsRowCaused : Shape → List Row → Row → Type 0
IsRowCaused K past row = IsCaused K (λ n. journal n past) row.node row.what

-- each row of a history, the newest of which is the first, is caused by those before it
abbrev pub AllCaused : Shape → List Row → Type 0
AllCaused K [] = Unit {0}
AllCaused K (row ∷ past) = IsRowCaused K past row × AllCaused K past

-- the row at this place of a history, the oldest of which is the first, is the first that is not caused by those before it
pub record IsFirstUncaused (K : Shape) (rows : List Row) (place : ℕ) : Type 0 where
  pub before : List Row
  pub row : Row
  pub after : List Row
  pub rows_are : rows ≡ before ++ row ∷ after
  pub stands : length before ≡ place
  pub caused : AllCaused K (reverse before)
  pub uncaused : IsRowCaused K (reverse before) row → ⊥

-- a Prepare's batch has its Done in these journals
abbrev pub HasDoneRecord : Shape → (ℕ → List Record) → Record → Type 0
HasDoneRecord K J (Prepare stamp b txs) = is_some (record_of done_kind (J (home_of K b.lane)) b) ≡ true
HasDoneRecord K J other = Unit {0}

-- each Prepare's batch among these rows has its Done in these journals
abbrev pub AllDone : Shape → (ℕ → List Record) → List Row → Type 0
AllDone K J rows = All (λ row. HasDoneRecord K J row.what) rows

-- the row at this place is the first that is a Prepare whose batch is not done
pub record IsFirstOpen (K : Shape) (J : ℕ → List Record) (rows : List Row) (place : ℕ) : Type 0 where
  pub before : List Row
  pub row : Row
  pub after : List Row
  pub rows_are : rows ≡ before ++ row ∷ after
  pub stands : length before ≡ place
  pub done : AllDone K J before
  pub unfinished : HasDoneRecord K J row.what → ⊥

-- each row of a ledger's history behind its first ones is after those of its journal, and its Prepares have transactions that pass
abbrev pub AllFollow : Shape → Minted → (Compact → Type 0) → List Row → Type 0
AllFollow K m P [] = Unit {0}
AllFollow K m P (row ∷ later) =
    After (header_of K m.id row.node) (journal row.node (later ++ first_rows K m)) row.what × TxsPass P row.what × AllFollow K m P later

-- a ledger's history whose rows are caused is kept, where they follow their journals and their Prepares' transactions pass
abbrev pub CausedLaw : Type 0
CausedLaw = (K : Shape) (mint : List Output) (submissions : List FullTx) (later : List Row) → AllCaused K (history_of K mint later)
    → AllFollow K (minted mint) (IsProperCompact submissions) later → IsKept K mint submissions later
