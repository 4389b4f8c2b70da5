-- How often a hash stands in a list.
use Rattle.std.proofs.Common.{◌⊎◌, inl, inr, subst, ◌≡◌, ℕ, suc, ◌+◌, ◌<◌, true, false, ◌||◌, if◌then◌else◌, List, [], ◌∷◌, ◌++◌, refl, sym, ◌∙◌}
use Rattle.std.proofs.Common.{arith}
use Rattle.cbdc_model.specs.Records.{Digest, same_digest}
use Rattle.cbdc_model.specs.Status.{has}
use Rattle.std.proofs.lemmas.Slice.Eq.{bytes_eq-Decides}

pub same_digest_is : (x y : Digest) → same_digest x y ≡ true → x ≡ y
unfolding same_digest
same_digest_is x y h = (bytes_eq-Decides x y).0 h

pub same_digest_self : (x : Digest) → same_digest x x ≡ true
unfolding same_digest
same_digest_self x = (bytes_eq-Decides x x).1 refl

abbrev pub count : Digest → List Digest → ℕ
count x [] = 0
count x (y ∷ ys) = (if same_digest y x then 1 else 0) + count x ys

pub count-append : (x : Digest) (xs ys : List Digest) → count x (xs ++ ys) ≡ count x xs + count x ys
count-append x [] ys = omega arith
count-append x (y ∷ xs) ys = omega (arith, count-append x xs ys)

pub has-count : (x : Digest) (xs : List Digest) → has xs x ≡ true → 0 < count x xs
has-count x [] h = cc
has-count x (y ∷ ys) h =
    elim (same_digest y x) as (λ b. (b || has ys x) ≡ true → 0 < (if b then 1 else 0) + count x ys) [
      | true ↦ λ _. omega arith
      | false ↦ λ h. omega (arith, has-count x ys h)
    ] h

pub not_has-count : (x : Digest) (xs : List Digest) → has xs x ≡ false → count x xs ≡ 0
not_has-count x [] h = refl
not_has-count x (y ∷ ys) h = grind (arith, not_has-count x ys)

pub count-has : (x : Digest) (xs : List Digest) → 0 < count x xs → has xs x ≡ true
count-has x [] h = absurd (omega arith)
count-has x (y ∷ ys) h = grind (arith, count-has x ys)

pub data SameDigest (x y : Digest) : Type 0 where
  same_one : x ≡ y → SameDigest x y
  other_one : (x ≡ y → ⊥) → SameDigest x y

-- two hashes are the same or not
pub digests : (x y : Digest) → (x ≡ y) ⊎ (x ≡ y → ⊥)
digests x y = elim (same_digest x y) as (λ c. same_digest x y ≡ c → (x ≡ y) ⊎ (x ≡ y → ⊥)) [
  | true ↦ λ e. inl (same_digest_is x y e)
  | false ↦ λ e. inr (λ s. let t : same_digest x y ≡ true = subst (λ z. same_digest x z ≡ true) s (same_digest_self x) in let no_way : true ≡ false =
      sym t ∙ e in cc)
] refl

pub same_is_true : (x y : Digest) → x ≡ y → same_digest x y ≡ true
same_is_true x y e = subst (λ z. same_digest x z ≡ true) e (same_digest_self x)

pub other_is_false : (x y : Digest) → (x ≡ y → ⊥) → same_digest x y ≡ false
other_is_false x y n = elim (same_digest x y) as (λ c. same_digest x y ≡ c → c ≡ false) [
  | true ↦ λ e. absurd (n (same_digest_is x y e))
  | false ↦ λ _. refl
] refl

pub count-cons_same : (x y : Digest) (ys : List Digest) → y ≡ x → count x (y ∷ ys) ≡ suc (count x ys)
count-cons_same x y ys e = let t : same_digest y x ≡ true = same_is_true y x e in grind arith

pub count-cons_other : (x y : Digest) (ys : List Digest) → (y ≡ x → ⊥) → count x (y ∷ ys) ≡ count x ys
count-cons_other x y ys n = let t : same_digest y x ≡ false = other_is_false y x n in grind arith

pub count_first : (y : Digest) (ys : List Digest) → 0 < count y (y ∷ ys)
count_first y ys = omega (arith, count-cons_same y y ys refl)

pub here_or_later : (y : Digest) (ys : List Digest) (x : Digest) → 0 < count x (y ∷ ys) → (y ≡ x) ⊎ (0 < count x ys)
here_or_later y ys x n = elim (digests y x) [
  | inl e ↦ inl e
  | inr f ↦ inr (omega (arith, count-cons_other x y ys f))
]
