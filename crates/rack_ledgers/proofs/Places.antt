-- Lists by their places.
use Rattle.std.proofs.Common.{◌≡◌, ◌<◌, ◌+◌, ◌∷◌, [], ℕ, zero, suc, List, length, Some, subst, arith, inl, inr}
use Rattle.std.specs.Prelude.{slice_get}
use Rattle.std.proofs.lemmas.Option.{slice_get_cases}
use Rattle.rack_ledgers.specs.Places.{EachFrom}
use Rattle.rack_ledgers.specs.Ledgers.{ByPlace}

pub at_place : {N : Type 0} (P : ℕ → N → Type 0) (i : ℕ) (xs : List N) → EachFrom P i xs → (n : ℕ) (x : N) → slice_get xs n ≡ Some x → P (i + n) x
at_place P i [] all n x is = absurd (cc)
at_place P i (y ∷ xs) all zero x is =
    let same : y ≡ x = cc in
    subst (λ (k : ℕ). P k x) (omega arith) (subst (λ (z : _). P i z) same all.0)
at_place P i (y ∷ xs) all (suc n) x is = subst (λ (k : ℕ). P k x) (omega arith) (at_place P (suc i) xs all.1 n x is)

pub by_place : {N : Type 0} (P : ℕ → N → Type 0) (xs : List N) → EachFrom P 0 xs → ByPlace P xs
by_place P xs all n x is = subst (λ (k : ℕ). P k x) (omega arith) (at_place P 0 xs all n x is)

-- what two properties of each item say of its place
pub by_two : {N : Type 0} (P Q : ℕ → N → Type 0) (R : ℕ → Type 0) (xs : List N) → ((k : ℕ) (x : N) → P k x → Q k x → R k) → ByPlace P xs
    → ByPlace Q xs → (n : ℕ) → n < length xs → R n
by_two P Q R xs both one other n lt = elim ((slice_get_cases xs n).1) [
  | inl here ↦ both n here.0 (one n here.0 here.2) (other n here.0 here.2)
  | inr past ↦ absurd (omega (arith, past.0, lt))
]
