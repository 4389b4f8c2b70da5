use Rattle.std.proofs.Common.{ℕ, ◌<◌, ◌≤◌}
use Rattle.shard_table.specs.Slots.{slot_at, IsOther}
use Rattle.shard_table.proofs.placing.first_in.Given as goal

-- the slots so far have other hashes
abbrev pub invariant-loop-at : goal.invariant-loop-at
invariant-loop-at g l = (m : ℕ) → l.from ≤ m → m < l.at → IsOther (slot_at l.slots m) l.x
