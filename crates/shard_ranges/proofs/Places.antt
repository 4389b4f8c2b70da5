-- Lists at a place, and at their end.
use Rattle.std.proofs.Common.{◌≡◌, ◌≢◌, ℕ, zero, suc, ◌-◌, List, [], ◌∷◌, ◌++◌, length, set, get_or, Some, slice_get, refl, ap, arith}
use Rattle.std.proofs.Math.Seq.{set-append_seam, get_or-append_seam}
use Rattle.std.proofs.lemmas.List.{length-append}

pub get_set_same : {A : Type 0} (xs : List A) (i : ℕ) (v s : A) → slice_get (set xs i v) i ≡ Some s → s ≡ v
get_set_same [] i v s h = cc
get_set_same (x ∷ xs) zero v s h = cc
get_set_same (x ∷ xs) (suc i) v s h = get_set_same xs i v s h

pub get_set_other : {A : Type 0} (xs : List A) (i j : ℕ) (v : A) → i ≢ j → slice_get (set xs i v) j ≡ slice_get xs j
get_set_other [] i j v h = refl
get_set_other (x ∷ xs) zero zero v h = absurd (h refl)
get_set_other (x ∷ xs) zero (suc j) v h = refl
get_set_other (x ∷ xs) (suc i) zero v h = refl
get_set_other (x ∷ xs) (suc i) (suc j) v h = get_set_other xs i j v (λ e. h (ap (λ n. suc n) e))

pub last_place : {A : Type 0} (xs : List A) (x : A) → length (xs ++ x ∷ []) - 1 ≡ length xs
last_place xs x = omega (arith, length-append xs (x ∷ []))

get_seam : {A : Type 0} (xs : List A) (x : A) → slice_get (xs ++ x ∷ []) (length xs) ≡ Some x
get_seam [] x = refl
get_seam (y ∷ xs) x = get_seam xs x

pub get_last : {A : Type 0} (xs : List A) (x : A) → slice_get (xs ++ x ∷ []) (length (xs ++ x ∷ []) - 1) ≡ Some x
get_last xs x = rw (last_place xs x) (get_seam xs x)

-- the last item is put in place of another
pub set_last : {A : Type 0} (xs : List A) (x y : A) → set (xs ++ x ∷ []) (length (xs ++ x ∷ []) - 1) y ≡ xs ++ y ∷ []
set_last xs x y = rw (last_place xs x) (set-append_seam xs x [] y)

pub read_last : {A : Type 0} (xs : List A) (x d : A) → get_or (xs ++ x ∷ []) (length (xs ++ x ∷ []) - 1) d ≡ x
read_last xs x d = rw (last_place xs x) (get_or-append_seam xs x [] d)
