-- The memory for the decisions of locked batches.
use Rattle.std.specs.Prelude.{◌≡◌, ℕ, ◌≤◌, Bool, List, length, vec_capacity, Some, slice_get}
use Rattle.std.specs.Global.{Vec}
use Rattle.shard_core.specs.declared.slots.LaneSlot.{LaneSlot}
use Rattle.shard_core.specs.declared.slots.LaneSlot.TheVariants.{Idle as Free, Locked as Taken, Finished}

-- how many entries a locked batch has
abbrev pub locked_entries : LaneSlot → ℕ
locked_entries (Free n t) = 0
locked_entries (Taken n part rs t) = length part
locked_entries (Finished n part rs ds t u) = 0

-- how many replies a locked batch has
abbrev pub locked_replies : LaneSlot → ℕ
locked_replies (Free n t) = 0
locked_replies (Taken n part rs t) = length rs
locked_replies (Finished n part rs ds t u) = 0

-- for each locked batch there is memory for a decision on each entry
abbrev pub HaveDecisionMemory : List LaneSlot → List (Vec Bool) → Type 0
HaveDecisionMemory slots memory =
    (i : ℕ) (s : LaneSlot) (m : Vec Bool) → slice_get slots i ≡ Some s → slice_get memory i ≡ Some m → locked_entries s ≤ vec_capacity m

-- each locked batch has a reply for each entry
abbrev pub ArePaired : List LaneSlot → Type 0
ArePaired slots = (i : ℕ) (s : LaneSlot) → slice_get slots i ≡ Some s → locked_replies s ≡ locked_entries s
