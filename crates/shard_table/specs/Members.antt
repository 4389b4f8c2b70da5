-- What a table is seen as.
use Rattle.std.specs.Prelude.{◌≡◌, ℕ, false, List, [], ◌∷◌}
use Rattle.cbdc_model.specs.Records.{Digest}
use Rattle.cbdc_model.specs.Status.{has}

-- its hashes, and how many more it has room for
pub record TableOf : Type 0 where
  pub hashes : List Digest
  pub spare : ℕ

-- each hash stands once
abbrev pub IsSet : List Digest → Type 0
IsSet [] = Unit {0}
IsSet (x ∷ xs) = (has xs x ≡ false) × IsSet xs
