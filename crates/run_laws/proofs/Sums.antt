-- Sums over lists and over the numbers below one.
use Rattle.std.proofs.Common.{◌≡◌, ◌≢◌, ℕ, zero, suc, ◌+◌, ◌<◌, ◌≤◌, Bool, true, false, cond, ◌==◌, if◌then◌else◌, List, [], ◌∷◌, ◌++◌, length, take}
use Rattle.std.proofs.Common.{refl, ap, ◌∙◌, arith}
use Rattle.std.specs.List.{sum_by, filter, flat_map, range_with_len}
use Rattle.std.proofs.lemmas.List.Sums.{sum_by-cons}

-- ---- over a list

abbrev pub total : {X : Type 0} → (X → ℕ) → List X → ℕ
total f [] = 0
total f (x ∷ xs) = f x + total f xs

pub total_is : {X : Type 0} (f : X → ℕ) (xs : List X) → sum_by f xs ≡ total f xs
total_is f [] = refl
total_is f (x ∷ xs) = sum_by-cons f x xs ∙ ap (λ n. f x + n) (total_is f xs)

pub total-append : {X : Type 0} (f : X → ℕ) (xs ys : List X) → total f (xs ++ ys) ≡ total f xs + total f ys
total-append f [] ys = omega arith
total-append f (x ∷ xs) ys = let rest : total f (xs ++ ys) ≡ total f xs + total f ys = total-append f xs ys in omega arith

-- each of the first takes what it does
pub total_take : {X : Type 0} (f : X → ℕ) (xs : List X) (i j : ℕ) → i ≤ j → total f (take i xs) ≤ total f (take j xs)
total_take f xs zero j le = omega arith
total_take f xs (suc i) zero le = absurd (omega arith)
total_take f [] (suc i) (suc j) le = omega arith
total_take f (x ∷ xs) (suc i) (suc j) le = let rest : total f (take i xs) ≤ total f (take j xs) = total_take f xs i j (omega arith) in omega arith

pub total_taken : {X : Type 0} (f : X → ℕ) (xs : List X) (i : ℕ) → total f (take i xs) ≤ total f xs
total_taken f xs zero = omega arith
total_taken f [] (suc i) = omega arith
total_taken f (x ∷ xs) (suc i) = let rest : total f (take i xs) ≤ total f xs = total_taken f xs i in omega arith

-- one behind the first ones comes on top
pub total_split : {X : Type 0} (f : X → ℕ) (front back : List X) (x : X) (i j : ℕ) → i ≤ length front → length front < j
    → total f (take i (front ++ x ∷ back)) + f x ≤ total f (take j (front ++ x ∷ back))
total_split f [] back x zero (suc j) le lt = omega arith
total_split f [] back x (suc i) j le lt = absurd (omega arith)
total_split f [] back x zero zero le lt = absurd (omega arith)
total_split f (y ∷ front) back x zero zero le lt = absurd (omega arith)
total_split f (y ∷ front) back x zero (suc j) le lt = let rest : 0 + f x ≤ total f (take j (front ++ x ∷ back)) =
    total_split f front back x zero j (omega arith) (omega arith) in omega arith
total_split f (y ∷ front) back x (suc i) zero le lt = absurd (omega arith)
total_split f (y ∷ front) back x (suc i) (suc j) le lt =
    let rest : total f (take i (front ++ x ∷ back)) + f x ≤ total f (take j (front ++ x ∷ back)) =
    total_split f front back x i j (omega arith) (omega arith) in omega arith

-- ---- over the numbers below one

abbrev pub sum_below : (ℕ → ℕ) → ℕ → ℕ
sum_below f zero = 0
sum_below f (suc n) = sum_below f n + f n

pub data Same (i j : ℕ) : Type 0 where
  Yes : i ≡ j → Same i j
  No : i ≢ j → Same i j

pub same_nat : (i j : ℕ) → Same i j
same_nat zero zero = Yes refl
same_nat zero (suc j) = No (omega arith)
same_nat (suc i) zero = No (omega arith)
same_nat (suc i) (suc j) = elim (same_nat i j) [ Yes e ↦ Yes (omega arith) | No n ↦ No (omega arith) ]

sum_kept : (f g : ℕ → ℕ) (at n : ℕ) → ((k : ℕ) → at ≢ k → g k ≡ f k) → n ≤ at → sum_below g n ≡ sum_below f n
sum_kept f g at zero others le = refl
sum_kept f g at (suc n) others le =
    let here : g n ≡ f n = others n (omega arith) in
    let below : sum_below g n ≡ sum_below f n = sum_kept f g at n others (omega arith) in
    omega arith

-- only one term changes
pub sum_moves : (f g : ℕ → ℕ) (at n : ℕ) → ((k : ℕ) → at ≢ k → g k ≡ f k) → at < n → sum_below g n + f at ≡ sum_below f n + g at
sum_moves f g at zero others lt = absurd (omega arith)
sum_moves f g at (suc n) others lt = elim (same_nat at n) [
  | Yes e ↦
      let below : sum_below g n ≡ sum_below f n = sum_kept f g at n others (omega arith) in
      let new : g at ≡ g n = ap g e in
      let old : f at ≡ f n = ap f e in
      omega arith
  | No apart ↦
      let below : sum_below g n + f at ≡ sum_below f n + g at = sum_moves f g at n others (omega arith) in
      let here : g n ≡ f n = others n apart in
      omega arith
]

pub sum_le : (f g : ℕ → ℕ) (n : ℕ) → ((k : ℕ) → k < n → f k ≤ g k) → sum_below f n ≤ sum_below g n
sum_le f g zero all = omega arith
sum_le f g (suc n) all =
    let here : f n ≤ g n = all n (omega arith) in
    let below : sum_below f n ≤ sum_below g n = sum_le f g n (λ k lt. all k (omega arith)) in
    omega arith

-- one term has so much more
pub sum_more : (f g : ℕ → ℕ) (at more n : ℕ) → ((k : ℕ) → k < n → f k ≤ g k) → at < n → f at + more ≤ g at → sum_below f n + more ≤ sum_below g n
sum_more f g at more zero all lt own = absurd (omega arith)
sum_more f g at more (suc n) all lt own = elim (same_nat at n) [
  | Yes e ↦
      let below : sum_below f n ≤ sum_below g n = sum_le f g n (λ k lt. all k (omega arith)) in
      let new : g at ≡ g n = ap g e in
      let old : f at ≡ f n = ap f e in
      omega arith
  | No apart ↦
      let below : sum_below f n + more ≤ sum_below g n = sum_more f g at more n (λ k lt. all k (omega arith)) (omega arith) own in
      let here : f n ≤ g n = all n (omega arith) in
      omega arith
]

pub sum_add : (f g : ℕ → ℕ) (n : ℕ) → sum_below (λ k. f k + g k) n ≡ sum_below f n + sum_below g n
sum_add f g zero = refl
sum_add f g (suc n) = let below : sum_below (λ k. f k + g k) n ≡ sum_below f n + sum_below g n = sum_add f g n in omega arith

pub sum_one : (f : ℕ → ℕ) (at n : ℕ) → at < n → f at ≤ sum_below f n
sum_one f at zero lt = absurd (omega arith)
sum_one f at (suc n) lt = elim (same_nat at n) [
  | Yes e ↦ let old : f at ≡ f n = ap f e in omega arith
  | No apart ↦ let below : f at ≤ sum_below f n = sum_one f at n (omega arith) in omega arith
]

pub sum_none : (f : ℕ → ℕ) (n : ℕ) → ((k : ℕ) → k < n → f k ≡ 0) → sum_below f n ≡ 0
sum_none f zero none = refl
sum_none f (suc n) none =
    let here : f n ≡ 0 = none n (omega arith) in
    let below : sum_below f n ≡ 0 = sum_none f n (λ k lt. none k (omega arith)) in
    omega arith

-- each of the numbers is met once at most
abbrev pub one_at : ℕ → ℕ → ℕ
one_at at k = if at == k then 1 else 0

one_elsewhere : (at k : ℕ) → at ≢ k → one_at at k ≡ 0
one_elsewhere at k apart = grind arith

one_here : (at k : ℕ) → one_at at k ≤ 1
one_here at k = grind arith

pub once_below : (at n : ℕ) → sum_below (one_at at) n ≤ 1
once_below at zero = omega arith
once_below at (suc n) = elim (same_nat at n) [
  | Yes e ↦
      let none : sum_below (one_at at) n ≡ 0 = sum_none (one_at at) n (λ k lt. one_elsewhere at k (omega arith)) in
      let one : one_at at n ≤ 1 = one_here at n in
      omega arith
  | No apart ↦
      let none : one_at at n ≡ 0 = one_elsewhere at n apart in
      let below : sum_below (one_at at) n ≤ 1 = once_below at n in
      omega arith
]

-- ---- over ranges

abbrev sum_from : (ℕ → ℕ) → ℕ → ℕ → ℕ
sum_from f k zero = 0
sum_from f k (suc n) = f k + sum_from f (k + 1) n

last_from : (f : ℕ → ℕ) (k n : ℕ) → sum_from f k (suc n) ≡ sum_from f k n + f (k + n)
last_from f k zero = let e : f k ≡ f (k + 0) = ap f (omega arith) in omega arith
last_from f k (suc n) =
    let rest : f (k + 1) + sum_from f (k + 1 + 1) n ≡ sum_from f (k + 1) n + f (k + 1 + n) = last_from f (k + 1) n in
    let e : f (k + 1 + n) ≡ f (k + suc n) = ap f (omega arith) in
    omega arith

from_below : (f : ℕ → ℕ) (n : ℕ) → sum_from f 0 n ≡ sum_below f n
from_below f zero = refl
from_below f (suc n) =
    let more : sum_from f 0 (suc n) ≡ sum_from f 0 n + f (0 + n) = last_from f 0 n in
    let e : f (0 + n) ≡ f n = ap f (omega arith) in
    let below : sum_from f 0 n ≡ sum_below f n = from_below f n in
    more ∙ omega arith

-- a list of lists
pub total_flat : {X A : Type 0} (g : A → ℕ) (f : X → List A) (xs : List X) → total g (flat_map f xs) ≡ total (λ x. total g (f x)) xs
total_flat g f [] = refl
total_flat g f (x ∷ xs) = total-append g (f x) (flat_map f xs) ∙ ap (λ n. total g (f x) + n) (total_flat g f xs)

total_from : (f : ℕ → ℕ) (k n : ℕ) → total f (range_with_len k n) ≡ sum_from f k n
total_from f k zero = refl
total_from f k (suc n) = ap (λ m. f k + m) (total_from f (k + 1) n)

pub total_range : (f : ℕ → ℕ) (n : ℕ) → total f (range_with_len 0 n) ≡ sum_below f n
total_range f n = total_from f 0 n ∙ from_below f n

-- ---- filters

pub filter_flat : {X A : Type 0} (p : A → Bool) (f : X → List A) (xs : List X) → filter p (flat_map f xs) ≡ flat_map (λ x. filter p (f x)) xs
filter_flat p f [] = refl
filter_flat p f (x ∷ xs) = both p (f x) (flat_map f xs) ∙ ap (λ l. filter p (f x) ++ l) (filter_flat p f xs)
  where
    both : {A : Type 0} (p : A → Bool) (us vs : List A) → filter p (us ++ vs) ≡ filter p us ++ filter p vs
    both p [] vs = refl
    both p (a ∷ us) vs = let rest : filter p (us ++ vs) ≡ filter p us ++ filter p vs = both p us vs in
        elim (p a) as (λ c. cond c (a ∷ filter p (us ++ vs)) (filter p (us ++ vs)) ≡ cond c (a ∷ filter p us) (filter p us) ++ filter p vs) [
          | true ↦ ap (λ l. a ∷ l) rest
          | false ↦ rest
        ]
