-- How long spellings are.
use Rattle.std.proofs.Common.{◌≡◌, ℕ, length, refl}
use Rattle.byte_spelling.specs.Spelling.{number}

pub length-number : (n : ℕ) → length (number n) ≡ 8
unfolding number
length-number n = refl
