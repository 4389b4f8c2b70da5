-- The book: which output lies at which outpoint. Spending, folding and value.
use Rattle.std.specs.Prelude.{◌≡◌, ℕ, Bool, List, [], ◌∷◌, sum_by, Option, Some, None, if◌then◌else◌, ◌==◌, ◌&&◌}
use Rattle.std.specs.FinMap as book
use Rattle.std.specs.Ordering.{nat_cmp}
use Rattle.std.specs.Cmp.Lexicographic.{slice_cmp}
use Rattle.cbdc_model.specs.Records.{Digest, same_digest}
use Rattle.cbdc_model.specs.Coins.{OutPoint, Output, Coin, FullTx, coin_hash, tx_coins, genesis_tx}
use Rattle.cbdc_model.specs.Money.{money_of, issuable_of, permits_of}

-- an outpoint as a key: the index and the bytes of the id
abbrev pub key : OutPoint → List ℕ
key p = p.index ∷ p.tx

-- a finite map from outpoints to outputs
abbrev pub Book : Type 0
Book = book.FinMap (slice_cmp nat_cmp) Output

-- whether two outputs are the same
abbrev pub same_output : Output → Output → Bool
same_output o p = same_digest o.program p.program && (o.value == p.value)

-- takes a coin out, where the book has the claimed output at its outpoint
abbrev pub taken : Book → Coin → Option Output → Option Book
taken b c None = None
taken b c (Some o) = if same_output o c.output then Some (book.remove b (key c.point)) else None

-- a book without a coin; none where the coin isn't there as claimed
abbrev pub take_out : Book → Coin → Option Book
take_out b c = taken b c (book.get b (key c.point))

-- takes coins out one after another, so none may stand there twice
abbrev pub take_all : Option Book → List Coin → Option Book
take_all None cs = None
take_all (Some b) [] = Some b
take_all (Some b) (c ∷ cs) = take_all (take_out b c) cs

-- a book with coins put in
abbrev pub put_all : Book → List Coin → Book
put_all b [] = b
put_all b (c ∷ cs) = put_all (book.insert b (key c.point) c.output) cs

-- a book from which the inputs were taken, with the outputs put in
abbrev pub spend_from : Option Book → FullTx → Option Book
spend_from None t = None
spend_from (Some b) t = Some (put_all b (tx_coins t))

-- takes the inputs out and puts the outputs in; none where an input isn't there as claimed or stands twice
abbrev pub spend : Book → FullTx → Option Book
spend b t = spend_from (take_all (Some b) t.inputs) t

-- transactions spent in turn; none where one can't be
abbrev pub fold_txs : Option Book → List FullTx → Option Book
fold_txs None ts = None
fold_txs (Some b) [] = Some b
fold_txs (Some b) (t ∷ ts) = fold_txs (spend b t) ts

-- the sum of a measure over the outputs
abbrev pub total : (Output → ℕ) → Book → ℕ
total f b = sum_by f (book.values b)

-- the sum of the values
abbrev pub value : Book → ℕ
value b = total (λ o. o.value) b

-- that of the money
abbrev pub money : Book → ℕ
money b = total money_of b

-- how many permits there are
abbrev pub permits : Book → ℕ
permits b = total permits_of b

-- what may still be issued with them
abbrev pub issuable : Book → ℕ
issuable b = total issuable_of b

-- the book that a mint is: its outputs under its id, at 0, 1, 2 and so on
abbrev pub genesis_book : List Output → Book
genesis_book mint = put_all book.empty (tx_coins (genesis_tx mint))

-- the book has a coin with this hash
abbrev pub InBook : Book → Digest → Type 0
InBook b x = (c : Coin) × (book.get b (key c.point) ≡ Some c.output) × (coin_hash c ≡ x)
