-- The lines of a verdict file.
use Rattle.std.specs.Prelude.{◌≡◌, ◌≢◌, ◌≤◌, ℕ, Bool, true, false, List, [], ◌∷◌, ◌++◌, length, Option, Some, None, codes, decimal, ◌==◌, ◌&&◌}
use Rattle.std.specs.Prelude.{if◌then◌else◌}
use Rattle.std.specs.List.{AllByRecursion}
use Rattle.std.specs.Str.{bytes_eq}
use Rattle.hex.specs.Hex.{encode_lower, IsBytes}

-- a verdict on the witness of an input: the transaction's id, the input's place, and whether it is good
pub record Line : Type 0 where
  pub tx : List ℕ
  pub index : ℕ
  pub good : Bool

-- an id has 32 bytes, and a place is from 0 to 254
pub record IsLine (l : Line) : Type 0 where
  pub size : length l.tx ≡ 32
  pub bytes : IsBytes l.tx
  pub place : l.index ≤ 254

-- the word for a verdict
abbrev pub word : Bool → List ℕ
word true = codes "good"
word false = codes "bad"

-- the bytes of a line, before its line feed
abbrev pub spelled : Line → List ℕ
spelled l = (encode_lower l.tx ++ 32 ∷ decimal l.index) ++ 32 ∷ word l.good

-- no line ends in these bytes
abbrev pub HasNoLineEnd : List ℕ → Type 0
HasNoLineEnd bytes = AllByRecursion (λ b. b ≢ 10) bytes

-- ---- lines one after another, the last of them first

-- whether an id and a place are those of an input
abbrev pub is_key : List ℕ → ℕ → List ℕ → ℕ → Bool
is_key tx index other place = bytes_eq tx other && (index == place)

-- what the lines say of an input
abbrev pub said : List Line → List ℕ → ℕ → Option Bool
said [] tx index = None
said (l ∷ earlier) tx index = if is_key l.tx l.index tx index then Some l.good else said earlier tx index

-- the text of lines
abbrev pub text : List Line → List ℕ
text [] = []
text (l ∷ earlier) = text earlier ++ (spelled l ++ 10 ∷ [])

-- each line is in form, and none speaks of the same input as an earlier one
abbrev pub AreLines : List Line → Type 0
AreLines [] = Unit {0}
AreLines (l ∷ earlier) = IsLine l × (said earlier l.tx l.index ≡ None) × AreLines earlier

-- the bytes begin with these lines, and go on with the rest
pub record BeginsWithLines (bytes : List ℕ) (lines : List Line) (rest : List ℕ) : Type 0 where
  pub whole : bytes ≡ text lines ++ rest
  pub sound : AreLines lines
