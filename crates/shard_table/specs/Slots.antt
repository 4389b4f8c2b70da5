-- The slots that hashes are kept in, as a circle: each hash stands at its home or behind it, with no free slot in between.
use Rattle.std.specs.Prelude.{◌≡◌, ◌≢◌, ◌⊎◌, ℕ, ◌*◌, ◌/◌, ◌%◌, ◌<◌, ◌≤◌, ◌^◌, ◌==◌, Bool, true, false, List, [], ◌∷◌, length, take, drop}
use Rattle.std.specs.Prelude.{if◌then◌else◌, Option, Some, None, slice_index_or}
use Rattle.std.specs.Int.{w64, from_le_bytes}
use Rattle.cbdc_model.specs.Records.{Digest, same_digest}
use Rattle.shard_table.specs.declared.slots.Kept.{Kept}

-- where the search for a hash begins: its bytes 8 to 15 as a number, little endian, modulo the homes
unfoldable pub home_slot : ℕ → Digest → ℕ
home_slot homes x = if homes == 0 then 0 else from_le_bytes w64 (take 8 (drop 8 x)) % homes

-- how many hashes there is room for: three for each four slots
abbrev pub limit_of : ℕ → ℕ
limit_of homes = homes / 4 * 3

-- no slot, or a power of two of pages of 256
abbrev pub IsSize : ℕ → Type 0
IsSize homes = (homes ≡ 0) ⊎ ((k : ℕ) × (homes ≡ 256 * 2 ^ k))

-- what stands in the slots, in their order
abbrev pub gather : {V : Type 0} → List (Option (Kept V)) → List (Kept V)
gather [] = []
gather (None ∷ slots) = gather slots
gather (Some e ∷ slots) = e ∷ gather slots

-- what stands in a slot; nothing past the last one
abbrev pub slot_at : {V : Type 0} → List (Option (Kept V)) → ℕ → Option (Kept V)
slot_at slots i = slice_index_or slots i None

-- whether it is a hash
abbrev pub is_taken : {V : Type 0} → Option (Kept V) → Bool
is_taken None = false
is_taken (Some e) = true

-- another hash stands in the slot
abbrev pub IsOther : {V : Type 0} → Option (Kept V) → Digest → Type 0
IsOther None x = ⊥
IsOther (Some e) x = same_digest e.hash x ≡ false

-- the slot is free, or has this hash
abbrev pub IsFor : {V : Type 0} → Option (Kept V) → Digest → Type 0
IsFor None x = Unit {0}
IsFor (Some e) x = same_digest e.hash x ≡ true

-- going up the circle from a home, slot m is passed before slot `at` is come to
pub data Passed (home at m : ℕ) : Type 0 where
  Between : home ≤ m → m < at → Passed home at m
  Above : at < home → home ≤ m → Passed home at m
  Below : at < home → m < at → Passed home at m

-- the first slot from `from` on and below `to` that is free or has the hash, or `to`
pub record IsFirstSlot {V : Type 0} (slots : List (Option (Kept V))) (from to : ℕ) (x : Digest) (place : ℕ) : Type 0 where
  pub low : from ≤ place
  pub high : place ≤ to
  pub passed : (m : ℕ) → from ≤ m → m < place → IsOther (slot_at slots m) x
  pub found : place < to → IsFor (slot_at slots place) x

-- the first slot on the circle from a home on that is free or has the hash, or the end, where there is none
pub record IsPlace {V : Type 0} (slots : List (Option (Kept V))) (home : ℕ) (x : Digest) (place : ℕ) : Type 0 where
  pub high : place ≤ length slots
  pub passed : (m : ℕ) → m < length slots → place < length slots → Passed home place m → IsOther (slot_at slots m) x
  pub none : (m : ℕ) → m < length slots → length slots ≤ place → IsOther (slot_at slots m) x
  pub found : place < length slots → IsFor (slot_at slots place) x

-- no hash stands in two slots
abbrev pub AreOnce : {V : Type 0} → List (Option (Kept V)) → Type 0
AreOnce slots = (i j : ℕ) (e f : Kept _) → slot_at slots i ≡ Some e → slot_at slots j ≡ Some f → e.hash ≡ f.hash → i ≡ j

-- from each hash's home up to it all slots but the gap are taken, and no hash stands twice
pub record ArePlacedSlots {V : Type 0} (slots : List (Option (Kept V))) (homes gap : ℕ) : Type 0 where
  pub filled : (i m : ℕ) (e : Kept V) → slot_at slots i ≡ Some e → m < homes → Passed (home_slot homes e.hash) i m → m ≢ gap
      → is_taken (slot_at slots m) ≡ true
  pub once : AreOnce slots

-- the slots with no gap
abbrev pub IsSound : {V : Type 0} → List (Option (Kept V)) → ℕ → Type 0
IsSound slots homes = ArePlacedSlots slots homes homes

-- the slot is taken, and the gap is not between the entry's home and it
abbrev pub IsAhead : {V : Type 0} → Option (Kept V) → ℕ → ℕ → ℕ → Type 0
IsAhead None homes at gap = ⊥
IsAhead (Some e) homes at gap = Passed (home_slot homes e.hash) at gap → ⊥

-- there is a gap, and no slot from it up to `at` is free or may be moved into it
pub record IsOpen {V : Type 0} (slots : List (Option (Kept V))) (homes gap at : ℕ) : Type 0 where
  pub within : gap < homes
  pub empty : slot_at slots gap ≡ None
  pub placed : ArePlacedSlots slots homes gap
  pub ahead : (m : ℕ) → m < homes → Passed gap at m → m ≢ gap → IsAhead (slot_at slots m) homes m gap

-- the gap has moved to g; what was taken, the slots that were gone through and the gap that was are taken but g
pub record IsShifted {V : Type 0} (old new : List (Option (Kept V))) (gap from to g : ℕ) : Type 0 where
  pub low : gap ≤ from → gap ≤ g
  pub passed : (m : ℕ) → from ≤ m → m < to → m ≢ g → is_taken (slot_at new m) ≡ true
  pub still : (m : ℕ) → is_taken (slot_at old m) ≡ true → m ≢ g → is_taken (slot_at new m) ≡ true
  pub filled : gap ≢ g → is_taken (slot_at new gap) ≡ true

-- the slots are sound and as many as homes, and the count is that of the hashes
pub record IsFilled {V : Type 0} (slots : List (Option (Kept V))) (size : ℕ) : Type 0 where
  pub sound : IsSound slots (length slots)
  pub homes : IsSize (length slots)
  pub count : size ≡ length (gather slots)
  pub room : size ≤ limit_of (length slots)
  pub bound : length slots ≤ 2 ^ 62
