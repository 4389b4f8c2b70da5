-- What the parts of an audit keep: the book in a map, the handed-in transactions by their ids, and what is spent so far.
use Rattle.std.specs.Prelude.{◌≡◌, ◌<◌, ℕ, Bool, true, false, ◌&&◌, nat_eq, List, [], length, sum_by, find, Option, Some, None, option_map}
use Rattle.std.specs.Prelude.{slice_index_or}
use Rattle.std.specs.HashMap.{get, values, hash_map_len}
use Rattle.std.specs.FinMap as book
use Rattle.base_types.specs.contracts.hash.HashPartialEq.TheImpl.{eq-value}
use Rattle.cbdc_model.specs.Records.{Digest, same_digest, Shape, Compact, Record, journal}
use Rattle.cbdc_model.specs.Coins.{OutPoint, Output, FullTx, tx_id, compact}
use Rattle.cbdc_model.specs.Book.{Book, key, total}
use Rattle.cbdc_model.specs.Money.{issued, redeemed}
use Rattle.cbdc_model.specs.History.{committed}
use Rattle.audit.specs.declared.place.Place.{Place}
use Rattle.audit.specs.Rows.{rows_at, newest_first}
use Rattle.audit.specs.declared.book.Book.{Book as Kept}
use Rattle.audit.specs.declared.handed.ById.{ById}
use Rattle.audit.specs.declared.folding.Fold.{Fold}
use Rattle.audit.specs.declared.auditing.Walked.{Walked}
use Rattle.audit.specs.declared.auditing.Walked.TheVariants.{Whole, Stopped}
use Rattle.audit.specs.Knowing.{Knows}
use Rattle.audit.specs.Walks.{AllCaused}
use Rattle.audit.specs.Spending.{AreSpent}
use Rattle.audit.specs.Verdicts.{IsFirstUnsound}

-- an outpoint as the map has it
abbrev pub Point : Type 0
Point = Digest × ℕ

-- whether two are the same
abbrev pub same_kept_point : Point → Point → Bool
same_kept_point p q = eq-value.it p.0 q.0 && nat_eq p.1 q.1

-- the map has the outputs of this book
pub record HasBook (m : Kept) (b : Book) : Type 0 where
  pub outputs : (p : OutPoint) → get same_kept_point m.outputs (p.tx, p.index) ≡ book.get b (key p)
  pub size : hash_map_len m.outputs ≡ book.len b
  pub totals : (f : Output → ℕ) → sum_by f (values m.outputs) ≡ total f b

-- whether the map has what is left of a book, if something is
abbrev pub HasRest : Bool → Kept → Option Book → Type 0
HasRest true m (Some b) = HasBook m b
HasRest true m None = ⊥
HasRest false m (Some b) = ⊥
HasRest false m None = Unit {0}

-- this is the compact form of a transaction
abbrev pub IsFormOf : FullTx → Compact → Type 0
IsFormOf tx form = form ≡ compact tx

-- what stands for a transaction that is not there
abbrev pub no_tx : FullTx
no_tx = record { inputs = []; outputs = []; witnesses = [] }

-- the index of the first transaction with this id, where one has it
abbrev pub first_with_id : ById → Digest → Option ℕ
first_with_id ids x = get eq-value.it ids.firsts x

-- of each id the map has the index of the first transaction with it
pub record IsIndex (txs : List FullTx) (ids : ById) : Type 0 where
  pub inside : (x : Digest) (i : ℕ) → first_with_id ids x ≡ Some i → i < length txs
  pub first : (x : Digest) → option_map (λ i. slice_index_or txs i no_tx) (first_with_id ids x) ≡ find (λ t. same_digest (tx_id t) x) txs

-- these forms are spent, and counted
pub record HasSpent (mint : List Output) (handed : List FullTx) (forms : List Compact) (fold : Fold) : Type 0 where
  pub left : Book
  pub are_spent : AreSpent mint handed forms left
  pub keeps : HasBook fold.book left
  pub count : fold.committed ≡ length forms
  pub issued : fold.issued ≡ issued are_spent.txs
  pub redeemed : fold.redeemed ≡ redeemed are_spent.txs

-- what a walk says: all is known, caused and spent, or something is wrong at a place
abbrev pub IsWalked : Shape → List Output → List FullTx → List (List Record) → List Place → Fold → Walked → Type 0
IsWalked K mint handed all h fold (Whole known) =
    Knows all known (λ n. journal n (newest_first all h)) × AllCaused K (newest_first all h)
    × HasSpent mint handed (committed (newest_first all h)) fold
IsWalked K mint handed all h fold (Stopped place kind) = IsFirstUnsound K mint handed (rows_at all h) place kind
