-- The sentence: what holds of the journals once the open batches are recovered.
use Rattle.std.specs.Prelude.{◌≡◌, ◌≢◌, ◌↔◌, ℕ, ◌+◌, List, [], ◌∷◌, ◌++◌, Some, map, All, bytes_eq}
use Rattle.std.specs.List.{IsDistinct}
use Rattle.cbdc_types.specs.Kinds.{kind_of}
use Rattle.cbdc_types.specs.declared.tx.Kind.TheVariants.{Burn}
use Rattle.cbdc_model.specs.Records.{Digest, same_digest, Shape, Record, Row}
use Rattle.cbdc_model.specs.Coins.{Output, Coin, FullTx}
use Rattle.cbdc_model.specs.Money.{issued, redeemed}
use Rattle.cbdc_model.specs.Book.{key, Book, InBook, fold_txs, genesis_book, value, money, permits, issuable}
use Rattle.cbdc_model.specs.History.{minted, history_of, committed, AreCommitted}
use Rattle.cbdc_model.specs.World.{IsHistory, IsUnspent, Alike}

-- the coins that transactions spend
abbrev pub all_spent : List FullTx → List Coin
all_spent [] = []
all_spent (t ∷ ts) = t.inputs ++ all_spent ts

-- no two inputs of the transactions name one outpoint
abbrev pub NoneTwice : List FullTx → Type 0
NoneTwice ts = IsDistinct (λ p q. bytes_eq p q) (map (λ c. key c.point) (all_spent ts))

-- no id is committed twice
abbrev pub NoIdTwice : List Row → Type 0
NoIdTwice past = IsDistinct same_digest (map (λ k. k.id) (committed past))

-- what transactions that were spent from a mint leave of its money: money is what was minted plus issued less redeemed; there are as many permits
-- as were minted; what may still be issued, with what was issued, is what the mint's permits allow; and no burn output was spent
pub record IsIssued (mint : List Output) (txs : List FullTx) (book : Book) : Type 0 where
  pub money_kept : money book + redeemed txs ≡ money (genesis_book mint) + issued txs
  pub permits_kept : permits book ≡ permits (genesis_book mint)
  pub issuable_kept : issuable book + issued txs ≡ issuable (genesis_book mint)
  pub none_burnt : All (λ c. kind_of c.output ≢ Burn) (all_spent txs)

-- the shards together hold exactly the hashes of the coins left by folding the committed transactions in the order of their Commits;
-- each found all its inputs unspent, none was spent twice, money is what was minted plus issued less redeemed, and every batch is finished alike on
-- all its shards; besides, the coins' value is the value minted
pub record Headline (K : Shape) (mint : List Output) (submissions : List FullTx) (J : ℕ → List Record) : Type 0 where
  pub later : List Row
  pub history : IsHistory K (minted mint) J later
  pub txs : List FullTx
  pub committed : AreCommitted submissions (history_of K mint later) txs
  pub book : Book
  pub folds : fold_txs (Some (genesis_book mint)) txs ≡ Some book
  pub unspent : (x : Digest) → IsUnspent K J x ↔ InBook book x
  pub issuance : IsIssued mint txs book
  pub value_kept : value book ≡ value (genesis_book mint)
  pub none_twice : NoneTwice txs
  pub no_id_twice : NoIdTwice (history_of K mint later)
  pub alike : Alike K J
