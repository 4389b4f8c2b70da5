use Rattle.std.proofs.Common.{◌≡◌, ℕ, ◌*◌, ◌+◌, ◌≤◌, ◌^◌, ◌-◌}
use Rattle.shard_table.proofs.slots.slots_for.Given as goal

abbrev pub invariant-loop-wanted : goal.invariant-loop-wanted
invariant-loop-wanted l = (l.wanted ≤ 2 ^ 62) × ((k : ℕ) × (l.wanted ≡ 256 * 2 ^ k))

abbrev pub decreases-loop-wanted : goal.decreases-loop-wanted
decreases-loop-wanted l = 2 * l.need + 8 - l.wanted
