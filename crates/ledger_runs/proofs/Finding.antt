-- The first of the lanes that stopped.
use Rattle.std.proofs.Common.{◌≡◌, ◌≢◌, ◌⊎◌, inl, inr, true, false, ◌==◌, ℕ, ◌+◌, ◌<◌, List, get_or, ◌∙◌, subst, arith, Some}
use Rattle.std.specs.Prelude.{slice_get}
use Rattle.std.proofs.lemmas.Bool.Decides.{eqb_tells}
use Rattle.std.proofs.lemmas.Option.{get_or_from_slice_get}

-- what holds of the items before a place and of the one there holds of those before the next place
pub up_to : {A : Type 0} (P : A → Type 0) (xs : List A) (i : ℕ) (at : A) → at ≡ get_or xs i at → P at
    → ((k : ℕ) (x : A) → k < i → slice_get xs k ≡ Some x → P x) → (k : ℕ) (x : A) → k < i + 1 → slice_get xs k ≡ Some x → P x
up_to P xs i at is here before k x low there = go (eqb_tells k i)
  where
    go : (((k == i) ≡ true) × (k ≡ i)) ⊎ (((k == i) ≡ false) × (k ≢ i)) → P x
    go (inl (b, same)) = subst P (is ∙ get_or_from_slice_get xs i x at (subst (λ m. slice_get xs m ≡ Some x) same there)) here
    go (inr (b, other)) = before k x (omega (arith, low, other)) there
