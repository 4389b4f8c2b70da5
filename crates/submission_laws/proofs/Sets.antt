-- Lists in which nothing stands twice.
use Rattle.std.proofs.Common.{◌≡◌, ◌⊎◌, inl, inr, ℕ, zero, suc, ◌+◌, ◌<◌, ◌≤◌, true, false, List, [], ◌∷◌, ◌++◌, length, map, refl, sym, ap, ◌∙◌}
use Rattle.std.proofs.Common.{subst, arith}
use Rattle.std.specs.List.{range_with_len, IsDistinct, AllByRecursion}
use Rattle.cbdc_model.specs.Records.{Digest, same_digest}
use Rattle.cbdc_model.specs.Status.{has}
use Rattle.shard_table.specs.Members.{IsSet}
use Rattle.ledger_laws.proofs.Counts.{has-count, count-has, same_is_true}
use Rattle.ledger_laws.proofs.Lookups.{true_false, not_true}
use Rattle.ledger_laws.proofs.Members.{In, in_count, count_in}
use Rattle.submission_laws.proofs.Ranges.{in_both, From, from_range}

abbrev pub Once : {A : Type 0} → List A → Type 0
Once [] = Unit {0}
Once (x ∷ xs) = (In x xs → ⊥) × Once xs

pub once_both : {A : Type 0} (xs ys : List A) → Once xs → Once ys → ((x : A) → In x xs → In x ys → ⊥) → Once (xs ++ ys)
once_both [] ys a b apart = b
once_both (x ∷ xs) ys a b apart = (
  λ h. elim (in_both x xs ys h) [ inl l ↦ a.0 l | inr r ↦ apart x (inl refl) r ],
  once_both xs ys a.1 b (λ z h g. apart z (inr h) g),
)

pub once_range : {A : Type 0} (f : ℕ → A) (m k top : ℕ) → k + m ≤ top → ((i j : ℕ) → i < top → j < top → f i ≡ f j → i ≡ j)
    → Once (map f (range_with_len k m))
once_range f zero k top le same = tt
once_range f (suc m) k top le same = (
  λ h. (
      let r : From f m (k + 1) (f k) = from_range f m (k + 1) (f k) h in
      let low = r.low in
      let high = r.high in
      let e = same k r.number (omega (arith, le)) (omega (arith, le, high)) r.is in
      omega (arith, low, e)),
  once_range f m (k + 1) top (omega (arith, le)) same,
)

-- a list without one place of it
pub record Without {A : Type 0} (x : A) (ys : List A) : Type 0 where
  pub rest : List A
  pub long : length ys ≡ suc (length rest)
  pub others : (y : A) → In y ys → (y ≡ x) ⊎ In y rest

pub without : {A : Type 0} (x : A) (ys : List A) → In x ys → Without x ys
without x [] h = absurd h
without x (z ∷ ys) (inl e) = record { rest = ys; long = refl; others = λ y h. elim h [ inl f ↦ inl (f ∙ sym e) | inr g ↦ inr g ] }
without x (z ∷ ys) (inr h) =
    let w = without x ys h in
    record {
      rest = z ∷ w.rest;
      long = ap suc w.long;
      others = λ y i. elim i [ inl f ↦ inr (inl f) | inr g ↦ elim (w.others y g) [ inl e ↦ inl e | inr r ↦ inr (inr r) ] ];
    }

-- a list in which nothing stands twice is no longer than one that has all of it
pub no_longer : {A : Type 0} (xs ys : List A) → Once xs → ((x : A) → In x xs → In x ys) → length xs ≤ length ys
no_longer [] ys once all = omega arith
no_longer (x ∷ xs) ys once all =
    let w = without x ys (all x (inl refl)) in
    let rest = no_longer xs w.rest once.1 (λ y h. elim (w.others y (all y (inr h))) [
      | inl e ↦ absurd (once.0 (subst (λ z. In z xs) e h))
      | inr r ↦ r
    ]) in
    let long = w.long in
    omega (arith, rest, long)

-- ---- of hashes

pub has_in : (x : Digest) (xs : List Digest) → has xs x ≡ true → In x xs
has_in x xs h = count_in x xs (has-count x xs h)

pub in_has : (x : Digest) (xs : List Digest) → In x xs → has xs x ≡ true
in_has x xs h = count-has x xs (in_count x xs h)

pub set_once : (xs : List Digest) → IsSet xs → Once xs
set_once [] h = tt
set_once (x ∷ xs) h = (λ i. true_false (has xs x) (in_has x xs i) h.0, set_once xs h.1)

pub once_set : (xs : List Digest) → Once xs → IsSet xs
once_set [] h = tt
once_set (x ∷ xs) h = (not_true (has xs x) (λ t. h.0 (has_in x xs t)), once_set xs h.1)

differs : (x y : Digest) → same_digest x y ≡ false → x ≡ y → ⊥
differs x y f e = true_false (same_digest x y) (same_is_true x y e) f

none_here : (x : Digest) (xs : List Digest) → AllByRecursion (λ y. same_digest x y ≡ false) xs → In x xs → ⊥
none_here x [] all h = h
none_here x (y ∷ xs) all (inl e) = differs x y all.0 e
none_here x (y ∷ xs) all (inr h) = none_here x xs all.1 h

pub distinct_once : (xs : List Digest) → IsDistinct same_digest xs → Once xs
unfolding IsDistinct
distinct_once [] h = tt
distinct_once (x ∷ xs) h = (λ i. none_here x xs h.0 i, distinct_once xs h.1)
