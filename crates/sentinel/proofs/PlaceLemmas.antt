-- The least place of something, as a loop finds it.
use Rattle.std.proofs.Common.{rules, ◌≡◌, ℕ, ◌+◌, ◌<◌, ◌≤◌, List, length, get_or, Some, refl, sym, ◌∙◌, subst, arith, inl, inr}
use Rattle.std.specs.Prelude.{slice_get}
use Rattle.std.proofs.lemmas.Bool.{cases_lt}
use Rattle.std.proofs.lemmas.Option.{slice_get_read, slice_get_within}
use Rattle.cbdc_types.specs.declared.tx.Input.{Input}
use Rattle.sentinel.specs.FirstRefusal.{HasAt, Repeats}

module _ {X : Type 0} (Q : X → Type 0) (xs : List X) where
  -- the item that was read is the one at the place
  pub same_item : (i : ℕ) (x y : X) → i < length xs → x ≡ get_or xs i x → slice_get xs i ≡ Some y → y ≡ x
  same_item i x y inside is at = let both = sym at ∙ slice_get_read xs (length xs) i x refl inside is in cc

  pub has_at : (i : ℕ) (x : X) → i < length xs → x ≡ get_or xs i x → Q x → HasAt Q xs i
  has_at i x inside is holds = (x, slice_get_read xs (length xs) i x refl inside is, holds)

  -- one place more without it
  pub none_below : (i : ℕ) (x : X) → i < length xs → x ≡ get_or xs i x → ¬ (Q x) → ((k : ℕ) → k < i → ¬ (HasAt Q xs k)) → (k : ℕ) → k < i + 1
      → ¬ (HasAt Q xs k)
  none_below i x inside is not before k lt (y, at, holds) = elim (cases_lt k i) [
    | inl earlier ↦ before k earlier (y, at, holds)
    | inr later ↦
        let here : k ≡ i = omega arith in
        not (subst Q (same_item i x y inside is (subst (λ (j : ℕ). slice_get xs j ≡ Some y) here at)) holds)
  ]

  -- no place has it
  pub none_at_all : (i : ℕ) → length xs ≤ i → ((k : ℕ) → k < i → ¬ (HasAt Q xs k)) → (k : ℕ) → ¬ (HasAt Q xs k)
  none_at_all i past before k (y, at, holds) = let within : k < length xs = slice_get_within xs k y at in before k (omega arith) (y, at, holds)

-- one place more without a property of places
pub none_further : (P : ℕ → Type 0) (i : ℕ) → ¬ (P i) → ((k : ℕ) → k < i → ¬ (P k)) → (k : ℕ) → k < i + 1 → ¬ (P k)
none_further P i not before k lt holds = elim (cases_lt k i) [
  | inl earlier ↦ before k earlier holds
  | inr later ↦ let here : k ≡ i = omega arith in not (subst P here holds)
]
