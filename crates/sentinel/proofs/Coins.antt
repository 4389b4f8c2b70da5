-- The hashes of a transaction's coins, one after another.
use Rattle.std.proofs.Common.{◌≡◌, ℕ, suc, ◌+◌, ◌≤◌, ◌<◌, List, [], ◌∷◌, ◌++◌, length, map, drop, get_or, refl, sym, ap, ◌∙◌, append_assoc, add-one}
use Rattle.std.proofs.Common.{arith}
use Rattle.std.proofs.Math.Seq.{drop-cons}
use Rattle.std.proofs.lemmas.List.{append-nil, drop_all}
use Rattle.cbdc_model.specs.Records.{Digest}
use Rattle.cbdc_model.specs.Coins.{Output, Coin, coin_hash, made_coins}

-- one more hash
pub one_more : (id : Digest) (outputs : List Output) (i : ℕ) (o : Output) (h : Digest) (before all : List Digest) → i < length outputs
    → o ≡ get_or outputs i o
    → h ≡ coin_hash (record { point = record { tx = id; index = i }; output = o })
    → before ++ map coin_hash (made_coins id i (drop i outputs)) ≡ all
    → (before ++ h ∷ []) ++ map coin_hash (made_coins id (i + 1) (drop (i + 1) outputs)) ≡ all
one_more id outputs i o h before all inside is hash so_far =
    let split : drop i outputs ≡ o ∷ drop (suc i) outputs = drop-cons outputs i o inside ∙ ap (λ (x : Output). x ∷ drop (suc i) outputs) (sym is) in
    let next : i + 1 ≡ suc i = omega arith in
    append_assoc before (h ∷ []) (map coin_hash (made_coins id (i + 1) (drop (i + 1) outputs)))
    ∙ ap (λ (k : ℕ). before ++ h ∷ map coin_hash (made_coins id k (drop k outputs))) next
    ∙ ap (λ (x : Digest). before ++ x ∷ map coin_hash (made_coins id (suc i) (drop (suc i) outputs))) hash
    ∙ sym (ap (λ (os : List Output). before ++ map coin_hash (made_coins id i os)) split)
    ∙ so_far

-- no output is left
pub at_end : (id : Digest) (outputs : List Output) (i : ℕ) (before all : List Digest) → length outputs ≤ i
    → before ++ map coin_hash (made_coins id i (drop i outputs)) ≡ all → before ≡ all
at_end id outputs i before all past so_far =
    sym (append-nil before) ∙ sym (ap (λ (os : List Output). before ++ map coin_hash (made_coins id i os)) (drop_all i outputs past)) ∙ so_far
