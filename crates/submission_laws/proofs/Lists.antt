-- What stands at a place of a list.
use Rattle.std.proofs.Common.{◌≡◌, ℕ, zero, suc, ◌+◌, ◌-◌, ◌<◌, List, [], ◌∷◌, ◌++◌, length, take, drop, Some, None, refl, ap, ◌∙◌, arith}
use Rattle.std.specs.Prelude.{slice_get}
use Rattle.std.proofs.Math.Seq.{split_at}
use Rattle.std.proofs.lemmas.List.{length-append, length-take-le, take-append-le, take_all}
use Rattle.std.proofs.lemmas.Option.{slice_get_within, get_or_from_slice_get}
use Rattle.cbdc_model.specs.Records.{Compact, Record}
use Rattle.printed_lines.specs.Decided.{added}
use Rattle.run_laws.specs.Placing.{tx_at}

pub split_get : {A : Type 0} (xs : List A) (j : ℕ) (x : A) → slice_get xs j ≡ Some x → xs ≡ take j xs ++ x ∷ drop (suc j) xs
split_get xs j x e = split_at xs j x (slice_get_within xs j x e) ∙ ap (λ y. take j xs ++ y ∷ drop (suc j) xs) (get_or_from_slice_get xs j x x e)

pub before_get : {A : Type 0} (xs : List A) (j : ℕ) (x : A) → slice_get xs j ≡ Some x → length (take j xs) ≡ j
before_get xs j x e = let low = slice_get_within xs j x e in length-take-le j xs (omega (arith, low))

-- what stands there in a front of the list
pub taken_get : {A : Type 0} (xs : List A) (j n : ℕ) (x : A) → j < n → slice_get xs j ≡ Some x → slice_get (take n xs) j ≡ Some x
taken_get xs j zero x low e = absurd (omega (arith, low))
taken_get [] j (suc n) x low e = e
taken_get (y ∷ xs) zero (suc n) x low e = e
taken_get (y ∷ xs) (suc j) (suc n) x low e = taken_get xs j n x (omega (arith, low)) e

pub taken_twice : {A : Type 0} (xs : List A) (j n : ℕ) → j < n → take j (take n xs) ≡ take j xs
taken_twice xs zero n low = refl
taken_twice xs (suc j) zero low = absurd (omega (arith, low))
taken_twice [] (suc j) (suc n) low = refl
taken_twice (y ∷ xs) (suc j) (suc n) low = ap (λ l. y ∷ l) (taken_twice xs j n (omega (arith, low)))

-- a transaction behind others, or among the first ones
pub tx_behind : (A ts : List Compact) (q m : ℕ) → m ≡ length A + q → tx_at (A ++ ts) m ≡ tx_at ts q
tx_behind [] ts q m e = ap (tx_at ts) (omega (arith, e))
tx_behind (a ∷ A) ts q zero e = absurd (omega (arith, e))
tx_behind (a ∷ A) ts q (suc m) e = tx_behind A ts q m (omega (arith, e))

pub tx_front : (A ts : List Compact) (q : ℕ) (c : Compact) → tx_at A q ≡ Some c → tx_at (A ++ ts) q ≡ Some c
tx_front [] ts q c e = absurd (let z : None ≡ Some c = e in cc)
tx_front (a ∷ A) ts zero c e = e
tx_front (a ∷ A) ts (suc q) c e = tx_front A ts q c e

pub tx_low : (A : List Compact) (q : ℕ) (c : Compact) → tx_at A q ≡ Some c → q < length A
tx_low [] q c e = absurd (let z : None ≡ Some c = e in cc)
tx_low (a ∷ A) zero c e = omega arith
tx_low (a ∷ A) (suc q) c e = let h = tx_low A q c e in omega (arith, h)

-- what came since, where it is told which records these are
pub added_is : (I J more : List Record) → J ≡ more ++ I → added I J ≡ more
added_is I J more e =
    let long : length J - length I ≡ length more = (let l = ap length e in let a = length-append more I in omega (arith, l, a)) in
    ap (λ n. take n J) long ∙ ap (take (length more)) e ∙ take-append-le (length more) more I (omega arith)
    ∙ take_all (length more) more (omega arith)
