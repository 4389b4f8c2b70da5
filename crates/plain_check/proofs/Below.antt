-- What holds of each number below n, by the last one and those below it.
use Rattle.std.proofs.Common.{◌≡◌, ◌↔◌, inl, inr, ℕ, ◌-◌, ◌<◌, Bool, subst, arith}
use Rattle.std.specs.Prelude.{IsTrue}
use Rattle.std.proofs.lemmas.Bool.{cases_lt}

pub next_below : (P : ℕ → Type 0) (n : ℕ) (told : Bool) → 0 < n → P (n - 1) → (IsTrue told ↔ ((k : ℕ) → k < n - 1 → P k))
    → IsTrue told ↔ ((k : ℕ) → k < n → P k)
next_below P n told some last h = (
  λ t k lt. elim (cases_lt k (n - 1)) [
    | inl less ↦ h.0 t k less
    | inr more ↦ let same : n - 1 ≡ k = omega arith in subst P same last
  ],
  λ all. h.1 (λ k lt. all k (omega arith)),
)
