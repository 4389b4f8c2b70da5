-- Reading from left to right, with the first fault that is met.
use Rattle.std.specs.Prelude.{ℕ, zero, suc, List, [], ◌∷◌, length, take, drop, Result, Ok, Err, nat_lt, if◌then◌else◌}
use Rattle.std.specs.Int.{w64, from_le_bytes}
use Rattle.base_types.specs.declared.faults.InputKind.TheVariants.{Cut, TooMany}
use Rattle.byte_fields.specs.declared.fault.Fault.{Fault}
use Rattle.byte_fields.specs.Faults.{◌>>=◌, fault}

-- a field of so many bytes, which is cut where fewer are left
abbrev pub field_at : {X : Type 0} → ℕ → (List ℕ → X) → List ℕ → Result (X × List ℕ) Fault
field_at n of bytes = if nat_lt (length bytes) n then Err (fault Cut bytes) else Ok (of (take n bytes), drop n bytes)

-- the number that eight bytes spell
abbrev pub number_of : List ℕ → ℕ
number_of bytes = from_le_bytes w64 bytes

-- the number at the front
abbrev pub number_at : List ℕ → Result (ℕ × List ℕ) Fault
number_at bytes = field_at 8 number_of bytes

-- the 32 bytes of a hash
abbrev pub hash_of : List ℕ → List ℕ
hash_of bytes = take 32 bytes

-- the hash at the front
abbrev pub hash_at : List ℕ → Result (List ℕ × List ℕ) Fault
hash_at bytes = field_at 32 hash_of bytes

-- so many of them
unfoldable pub items_at : {X : Type 0} → (List ℕ → Result (X × List ℕ) Fault) → ℕ → List ℕ → Result (List X × List ℕ) Fault
items_at item zero bytes = Ok ([], bytes)
items_at item (suc n) bytes = do
  first ← item bytes
  others ← items_at item n first.1
  Ok (first.0 ∷ others.0, others.1)

-- a list of at most so many items, behind their number
unfoldable pub list_at : {X : Type 0} → ℕ → (List ℕ → Result (X × List ℕ) Fault) → List ℕ → Result (List X × List ℕ) Fault
list_at limit item bytes = do
  n ← number_at bytes
  if nat_lt limit n.0 then Err (fault TooMany bytes) else items_at item n.0 n.1
