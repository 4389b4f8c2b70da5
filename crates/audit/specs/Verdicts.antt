-- What an audit's verdict says.
use Rattle.std.specs.Prelude.{◌≡◌, ℕ, List, ◌∷◌, ◌++◌, length, reverse}
use Rattle.std.specs.FinMap.{len}
use Rattle.cbdc_types.specs.declared.answer.UnsoundKind.{UnsoundKind}
use Rattle.cbdc_types.specs.declared.answer.UnsoundKind.TheVariants.{Cause, Unknown, Unfunded, Unfinished}
use Rattle.cbdc_model.specs.Records.{Shape, Record, Row, journal}
use Rattle.cbdc_model.specs.Coins.{Output, FullTx}
use Rattle.cbdc_model.specs.Book.{Book, value, money}
use Rattle.cbdc_model.specs.Money.{issued, redeemed}
use Rattle.cbdc_model.specs.Clean.{value_out}
use Rattle.cbdc_model.specs.History.{committed, newly_won}
use Rattle.cbdc_types.specs.declared.answer.Totals.{Totals}
use Rattle.audit.specs.declared.verdict.Verdict.{Verdict}
use Rattle.audit.specs.declared.verdict.Verdict.TheVariants.{Sound, Unsound}
use Rattle.audit.specs.Walks.{IsRowCaused, AllCaused, AllDone, IsFirstOpen}
use Rattle.audit.specs.Spending.{AreSpent, IsFirstWrong}

-- the journals of a history whose oldest row is the first
abbrev pub journals_of : List Row → ℕ → List Record
journals_of rows n = journal n (reverse rows)

-- each row of a history, the newest of which is the first, is caused by those before it, and what they commit can be spent and leaves this book
pub record Passes (K : Shape) (mint : List Output) (handed : List FullTx) (past : List Row) (b : Book) : Type 0 where
  pub caused : AllCaused K past
  pub spent : AreSpent mint handed (committed past) b

-- what is wrong with a row behind these: it is not caused, or it is and something is wrong with what it commits
abbrev pub IsRowFault : Shape → List Output → List FullTx → List Row → Row → UnsoundKind → Type 0
IsRowFault K mint handed past row Cause = IsRowCaused K past row → ⊥
IsRowFault K mint handed past row (Unknown id) = IsRowCaused K past row
    × IsFirstWrong mint handed (committed past) (newly_won row.what (journal row.node past)) (Unknown id)
IsRowFault K mint handed past row (Unfunded id) = IsRowCaused K past row
    × IsFirstWrong mint handed (committed past) (newly_won row.what (journal row.node past)) (Unfunded id)
IsRowFault K mint handed past row Unfinished = ⊥

-- the row at this place of a history, the oldest of which is the first, is the first with which something is wrong
pub record IsFirstUnsound (K : Shape) (mint : List Output) (handed : List FullTx) (rows : List Row) (place : ℕ) (kind : UnsoundKind) : Type 0 where
  pub before : List Row
  pub row : Row
  pub after : List Row
  pub rows_are : rows ≡ before ++ row ∷ after
  pub stands : length before ≡ place
  pub book : Book
  pub pass : Passes K mint handed (reverse before) book
  pub fault : IsRowFault K mint handed (reverse before) row kind

-- nothing is wrong with any row, and the row at this place is the first Prepare whose batch is not done
pub record IsFirstUnfinished (K : Shape) (mint : List Output) (handed : List FullTx) (rows : List Row) (place : ℕ) : Type 0 where
  pub book : Book
  pub pass : Passes K mint handed (reverse rows) book
  pub first : IsFirstOpen K (journals_of rows) rows place

-- nothing is wrong with any row, all batches are done, and the totals are those of the last book, the mint and the transactions that were spent
pub record IsSoundHistory (K : Shape) (mint : List Output) (handed : List FullTx) (rows : List Row) (totals : Totals) : Type 0 where
  pub book : Book
  pub pass : Passes K mint handed (reverse rows) book
  pub done : AllDone K (journals_of rows) rows
  pub coins : totals.coins ≡ len book
  pub value : totals.value ≡ value book
  pub minted : totals.minted ≡ value_out mint
  pub committed : totals.committed ≡ length (committed (reverse rows))
  pub money : totals.money ≡ money book
  pub issued : totals.issued ≡ issued pass.spent.txs
  pub redeemed : totals.redeemed ≡ redeemed pass.spent.txs

-- an audit's verdict
abbrev pub IsVerdict : Shape → List Output → List FullTx → List Row → Verdict → Type 0
IsVerdict K mint handed rows (Sound totals) = IsSoundHistory K mint handed rows totals
IsVerdict K mint handed rows (Unsound place Cause) = IsFirstUnsound K mint handed rows place Cause
IsVerdict K mint handed rows (Unsound place (Unknown id)) = IsFirstUnsound K mint handed rows place (Unknown id)
IsVerdict K mint handed rows (Unsound place (Unfunded id)) = IsFirstUnsound K mint handed rows place (Unfunded id)
IsVerdict K mint handed rows (Unsound place Unfinished) = IsFirstUnfinished K mint handed rows place
