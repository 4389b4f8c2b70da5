-- That all money of a ledger is accounted for.
use Rattle.std.specs.Prelude.{◌≡◌, ◌↔◌, ℕ, ◌+◌, ◌<◌, true, List, All, Some, length, is_some}
use Rattle.std.specs.FinMap.{len}
use Rattle.cbdc_model.specs.Records.{Digest, Shape, Batch, Record, Row, record_of, prepare_kind, done_kind}
use Rattle.cbdc_model.specs.Ranges.{home_of}
use Rattle.cbdc_model.specs.Coins.{Output, FullTx}
use Rattle.cbdc_model.specs.Money.{taken_sum, made_sum, issued, redeemed}
use Rattle.cbdc_model.specs.Book.{Book, InBook, fold_txs, genesis_book, total, value, money}
use Rattle.cbdc_model.specs.Clean.{value_in, value_out, KeepsMoney}
use Rattle.cbdc_model.specs.Headline.{NoneTwice, NoIdTwice, IsIssued}
use Rattle.cbdc_model.specs.History.{minted, history_of, committed, AreCommitted}
use Rattle.cbdc_model.specs.World.{IsHistory, IsUnspent, AreIdle, Alike}
use Rattle.cbdc_types.specs.declared.answer.Totals.{Totals}
use Rattle.audit.specs.Walks.{AllCaused}

-- it makes as much as it takes
abbrev pub IsBalanced : FullTx → Type 0
IsBalanced t = value_in t.inputs ≡ value_out t.outputs

-- it keeps the money: besides, it spends no burn output, and of permits none and makes none, or one and makes one with no greater value
abbrev pub IsKeeping : FullTx → Type 0
IsKeeping t = KeepsMoney t.inputs t.outputs

-- each committed transaction of these rows has an input
abbrev pub EachSpends : List Row → Type 0
EachSpends past = All (λ form. 0 < length form.inputs) (committed past)

-- the journals have a history on top of the mint's first records, in which each record is caused by those before it and each Prepare's batch is
-- done. Each committed transaction was handed in, and folding them from the mint in the order of their Commits, where each found all its inputs,
-- leaves a book. The shards together hold exactly the hashes of its coins, none was spent twice, every batch is finished alike on all its shards.
-- By any measure of outputs the book and what was taken come to what was minted and what was made. So where no transaction makes other than it
-- takes, the coins' value is the value minted, and where each keeps the money, money is what was minted plus issued less redeemed. The totals are
-- those of this book and these transactions
pub record IsAccounted (K : Shape) (mint : List Output) (handed : List FullTx) (J : ℕ → List Record) (totals : Totals) : Type 0 where
  pub later : List Row
  pub history : IsHistory K (minted mint) J later
  pub caused : AllCaused K (history_of K mint later)
  pub done : (b : Batch) → is_some (record_of prepare_kind (J (home_of K b.lane)) b) ≡ true
      → is_some (record_of done_kind (J (home_of K b.lane)) b) ≡ true
  pub txs : List FullTx
  pub committed : AreCommitted handed (history_of K mint later) txs
  pub book : Book
  pub folds : fold_txs (Some (genesis_book mint)) txs ≡ Some book
  pub unspent : (x : Digest) → IsUnspent K J x ↔ InBook book x
  pub flow : (f : Output → ℕ) → total f book + taken_sum f txs ≡ total f (genesis_book mint) + made_sum f txs
  pub value_kept : All IsBalanced txs → value book ≡ value (genesis_book mint)
  pub issuance : All IsKeeping txs → IsIssued mint txs book
  pub none_twice : NoneTwice txs
  pub no_id_twice : NoIdTwice (history_of K mint later)
  pub idle : AreIdle K J
  pub alike : Alike K J
  pub totals_are : totals ≡ record {
    coins = len book;
    value = value book;
    minted = value (genesis_book mint);
    committed = length txs;
    money = money book;
    issued = issued txs;
    redeemed = redeemed txs;
  }
