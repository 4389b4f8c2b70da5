-- A number of 64 bits that may stand for a greater one.
use Rattle.std.proofs.Common.{◌≡◌, ℕ, ◌-◌, ◌^◌, ◌<◌, ◌≤◌, min, Option, Some, None, arith}
use Rattle.std.specs.Prelude.{MatchOption}
use Rattle.std.proofs.lemmas.Grind.{common_steps}

at_most : (bytes n : ℕ) → bytes ≡ min n (2 ^ 64 - 1) → bytes ≡ 2 ^ 64 - 1 → 2 ^ 64 - 1 ≤ n
at_most bytes n e h = grind (arith, common_steps)

exact : (m bytes n : ℕ) → bytes ≡ min n (2 ^ 64 - 1) → m ≡ bytes → m < 2 ^ 64 - 1 → m ≡ n
exact m bytes n e h below = grind (arith, common_steps)

pub counts_up_to : (told : Option ℕ) (bytes n : ℕ) → bytes ≡ min n (2 ^ 64 - 1)
    → MatchOption told (bytes ≡ 2 ^ 64 - 1) (λ m. (m ≡ bytes) × (m < 2 ^ 64 - 1)) → MatchOption told (2 ^ 64 - 1 ≤ n) (λ m. m ≡ n)
counts_up_to None bytes n e h = at_most bytes n e h
counts_up_to (Some m) bytes n e h = exact m bytes n e h.0 h.1
