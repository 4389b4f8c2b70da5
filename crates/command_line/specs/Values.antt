-- What texts among the words spell.
use Rattle.std.specs.Prelude.{◌≡◌, ◌≤◌, ◌<◌, ◌^◌, ℕ, length, decimal}
use Rattle.std.specs.List.{AllPass}
use Rattle.hex.specs.Hex.{is_hex_digit}
use Rattle.clap.specs.Words.{Text}

-- the text spells the number in decimal digits, and it is from 1 to the limit
pub record IsNumber (most : ℕ) (text : Text) (n : ℕ) : Type 0 where
  pub spelled : text ≡ decimal n
  pub some : 1 ≤ n
  pub bound : n ≤ most

-- the text spells the number in decimal digits, and it is at most the limit
pub record IsUpTo (most : ℕ) (text : Text) (n : ℕ) : Type 0 where
  pub spelled : text ≡ decimal n
  pub bound : n ≤ most

-- the text spells the number in decimal digits, and 64 bits hold it
pub record IsWholeNumber (text : Text) (n : ℕ) : Type 0 where
  pub spelled : text ≡ decimal n
  pub bound : n < 2 ^ 64

-- 64 hexadecimal digits, in either case
pub record IsHashText (text : Text) : Type 0 where
  pub size : length text ≡ 64
  pub digits : AllPass is_hex_digit text
