-- What is kept under hashes, as callers see it.
use Rattle.std.specs.Prelude.{◌≡◌, ℕ, List, [], ◌∷◌, if◌then◌else◌, Option, Some, None}
use Rattle.cbdc_model.specs.Records.{Digest, same_digest}
use Rattle.shard_table.specs.declared.slots.Kept.{Kept}

-- the hashes with what is kept under each, and how many more there is room for
pub record SlotsOf (V : Type 0) : Type 0 where
  pub entries : List (Kept V)
  pub spare : ℕ

-- what is kept under a hash
abbrev pub lookup : {V : Type 0} → List (Kept V) → Digest → Option V
lookup [] x = None
lookup (e ∷ es) x = if same_digest e.hash x then Some e.value else lookup es x

-- each hash stands once
abbrev pub IsOnce : {V : Type 0} → List (Kept V) → Type 0
IsOnce [] = Unit {0}
IsOnce (e ∷ es) = (lookup es e.hash ≡ None) × IsOnce es
