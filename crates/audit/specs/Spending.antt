-- Spending what a history commits.
use Rattle.std.specs.Prelude.{◌≡◌, List, ◌∷◌, ◌++◌, Some, None}
use Rattle.cbdc_types.specs.declared.answer.UnsoundKind.{UnsoundKind}
use Rattle.cbdc_types.specs.declared.answer.UnsoundKind.TheVariants.{Cause, Unknown, Unfunded, Unfinished}
use Rattle.cbdc_model.specs.Records.{Compact}
use Rattle.cbdc_model.specs.Coins.{Output, FullTx}
use Rattle.cbdc_model.specs.Book.{Book, genesis_book, fold_txs, spend}
use Rattle.cbdc_model.specs.History.{first_with, AreHandedIn}

-- of each compact form the first transaction that was handed in with it, spent in turn from the mint, leave this book
pub record AreSpent (mint : List Output) (handed : List FullTx) (forms : List Compact) (b : Book) : Type 0 where
  pub txs : List FullTx
  pub handed_in : AreHandedIn handed forms txs
  pub folds : fold_txs (Some (genesis_book mint)) txs ≡ Some b

-- what is wrong with a committed form: none was handed in with it, or the first with it can't be spent from this book
abbrev pub IsFormWrong : List FullTx → Book → Compact → UnsoundKind → Type 0
IsFormWrong handed b form Cause = ⊥
IsFormWrong handed b form (Unknown id) = (id ≡ form.id) × (first_with handed form ≡ None)
IsFormWrong handed b form (Unfunded id) = (id ≡ form.id) × ((tx : FullTx) × (first_with handed form ≡ Some tx) × (spend b tx ≡ None))
IsFormWrong handed b form Unfinished = ⊥

-- what is wrong with the first of these forms with which something is, those before it being spent behind the spent ones
pub record IsFirstWrong (mint : List Output) (handed : List FullTx) (spent forms : List Compact) (kind : UnsoundKind) : Type 0 where
  pub earlier : List Compact
  pub form : Compact
  pub later : List Compact
  pub forms_are : forms ≡ earlier ++ form ∷ later
  pub book : Book
  pub are_spent : AreSpent mint handed (spent ++ earlier) book
  pub wrong : IsFormWrong handed book form kind
