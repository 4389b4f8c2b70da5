-- Lists of disks by their places.
use Rattle.std.proofs.Common.{◌≡◌, ◌≢◌, ⊎_elim, ℕ, suc, ◌+◌, ◌<◌, ◌≤◌, List, [], ◌∷◌, ◌++◌, length, sym, subst, arith}
use Rattle.std.proofs.lemmas.Bool.{cases_eq}
use Rattle.rack_ledgers.specs.Places.{EachFrom}

pub each_push : {D : Type 0} (P : ℕ → D → Type 0) (i : ℕ) (xs : List D) (x : D) → EachFrom P i xs → P (i + length xs) x → EachFrom P i (xs ++ x ∷ [])
each_push P i [] x all last = (subst (λ (k : ℕ). P k x) (omega arith) last, tt)
each_push P i (y ∷ xs) x all last = (all.0, each_push P (suc i) xs x all.1 (subst (λ (k : ℕ). P k x) (omega arith) last))

pub each_front : {D : Type 0} (P : ℕ → D → Type 0) (i : ℕ) (xs : List D) (x : D) → EachFrom P i (xs ++ x ∷ []) → EachFrom P i xs
each_front P i [] x all = tt
each_front P i (y ∷ xs) x all = (all.0, each_front P (suc i) xs x all.1)

pub each_last : {D : Type 0} (P : ℕ → D → Type 0) (i : ℕ) (xs : List D) (x : D) → EachFrom P i (xs ++ x ∷ []) → P (i + length xs) x
each_last P i [] x all = subst (λ (k : ℕ). P k x) (omega arith) all.0
each_last P i (y ∷ xs) x all = subst (λ (k : ℕ). P k x) (omega arith) (each_last P (suc i) xs x all.1)

pub each_weaker : {D : Type 0} (P Q : ℕ → D → Type 0) (i : ℕ) (xs : List D) → ((k : ℕ) (d : D) → i ≤ k → k < i + length xs → P k d → Q k d)
    → EachFrom P i xs → EachFrom Q i xs
each_weaker P Q i [] weaker all = tt
each_weaker P Q i (x ∷ xs) weaker all = (
  weaker i x (omega arith) (omega arith) all.0,
  each_weaker P Q (suc i) xs (λ k d ge lt. weaker k d (omega arith) (omega arith)) all.1,
)

pub each_split : {D : Type 0} (P : ℕ → D → Type 0) (i : ℕ) (xs ys : List D) → EachFrom P i (xs ++ ys)
    → EachFrom P i xs × EachFrom P (i + length xs) ys
each_split P i [] ys all = (tt, subst (λ (k : ℕ). EachFrom P k ys) (omega arith) all)
each_split P i (x ∷ xs) ys all =
    let rest = each_split P (suc i) xs ys all.1 in
    ((all.0, rest.0), subst (λ (k : ℕ). EachFrom P k ys) (omega arith) rest.1)

-- what two properties of each item say of its place
pub each_two : {D : Type 0} (P Q : ℕ → D → Type 0) (R : ℕ → Type 0) (i : ℕ) (xs : List D) → ((k : ℕ) (d : D) → P k d → Q k d → R k) → EachFrom P i xs
    → EachFrom Q i xs → (n : ℕ) → i ≤ n → n < i + length xs → R n
each_two P Q R i [] both one other n ge lt = absurd (omega (arith, ge, lt))
each_two P Q R i (x ∷ xs) both one other n ge lt = ⊎_elim
    (λ (same : n ≡ i). subst R (sym same) (both i x one.0 other.0))
    (λ (differs : n ≢ i). each_two P Q R (suc i) xs both one.1 other.1 n (omega (arith, ge, differs)) (omega (arith, lt)))
    (cases_eq n i)
