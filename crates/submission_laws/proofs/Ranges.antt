-- What stands in a list of one item for each number of a range.
use Rattle.std.proofs.Common.{◌≡◌, ◌⊎◌, inl, inr, ℕ, zero, suc, ◌+◌, ◌<◌, ◌≤◌, List, [], ◌∷◌, ◌++◌, map, Some, None, sym, ap, ◌∙◌, arith}
use Rattle.std.specs.Prelude.{slice_get}
use Rattle.std.specs.List.{range_with_len}
use Rattle.std.proofs.lemmas.Bool.{cases_lt}
use Rattle.ledger_laws.proofs.Members.{In}

pub from_zero : (n : ℕ) → 0 + n ≡ n
from_zero n = omega arith

pub in_left : {A : Type 0} (x : A) (xs ys : List A) → In x xs → In x (xs ++ ys)
in_left x [] ys h = absurd h
in_left x (z ∷ xs) ys (inl e) = inl e
in_left x (z ∷ xs) ys (inr h) = inr (in_left x xs ys h)

pub in_right : {A : Type 0} (x : A) (xs ys : List A) → In x ys → In x (xs ++ ys)
in_right x [] ys h = h
in_right x (z ∷ xs) ys h = inr (in_right x xs ys h)

pub in_both : {A : Type 0} (x : A) (xs ys : List A) → In x (xs ++ ys) → In x xs ⊎ In x ys
in_both x [] ys h = inr h
in_both x (z ∷ xs) ys (inl e) = inl (inl e)
in_both x (z ∷ xs) ys (inr h) = elim (in_both x xs ys h) [ inl l ↦ inl (inr l) | inr r ↦ inr r ]

module _ {A : Type 0} (f : ℕ → A) where
  pub in_range : (m k i : ℕ) → k ≤ i → i < k + m → In (f i) (map f (range_with_len k m))
  in_range zero k i low high = absurd (omega (arith, low, high))
  in_range (suc m) k i low high = elim (cases_lt k i) [
    | inl past ↦ inr (in_range m (k + 1) i (omega (arith, past)) (omega (arith, high)))
    | inr here ↦ inl (ap f (omega (arith, low, here)))
  ]

  pub record From (m k : ℕ) (x : A) : Type 0 where
    pub number : ℕ
    pub low : k ≤ number
    pub high : number < k + m
    pub is : x ≡ f number

  pub from_range : (m k : ℕ) (x : A) → In x (map f (range_with_len k m)) → From m k x
  from_range zero k x h = absurd h
  from_range (suc m) k x (inl e) = record { number = k; low = omega arith; high = omega arith; is = e }
  from_range (suc m) k x (inr h) =
      let r = from_range m (k + 1) x h in
      let low = r.low in
      let high = r.high in
      record { number = r.number; low = omega (arith, low); high = omega (arith, high); is = r.is }

  pub get_range : (m k i : ℕ) → i < m → slice_get (map f (range_with_len k m)) i ≡ Some (f (k + i))
  get_range zero k i high = absurd (omega (arith, high))
  get_range (suc m) k zero high = ap (λ n. Some (f n)) (same k)
    where
      same : (k : ℕ) → k ≡ k + 0
      same k = omega arith
  get_range (suc m) k (suc i) high = get_range m (k + 1) i (omega (arith, high)) ∙ ap (λ n. Some (f n)) (shift k i)
    where
      shift : (k i : ℕ) → k + 1 + i ≡ k + suc i
      shift k i = omega arith

  some_is : (x y : A) → Some x ≡ Some y → x ≡ y
  some_is x y e = cc

  pub got_range : (m k i : ℕ) (x : A) → slice_get (map f (range_with_len k m)) i ≡ Some x → (i < m) × (x ≡ f (k + i))
  got_range zero k i x e = absurd (let z : None ≡ Some x = e in cc)
  got_range (suc m) k zero x e = (omega arith, sym (some_is (f k) x e) ∙ ap f (same k))
    where
      same : (k : ℕ) → k ≡ k + 0
      same k = omega arith
  got_range (suc m) k (suc i) x e = let r = got_range m (k + 1) i x e in (let low = r.0 in omega (arith, low), r.1 ∙ ap f (shift k i))
    where
      shift : (k i : ℕ) → k + 1 + i ≡ k + suc i
      shift k i = omega arith
