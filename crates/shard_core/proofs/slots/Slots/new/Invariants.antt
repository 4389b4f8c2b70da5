use Rattle.std.proofs.Common.{◌≡◌, replicate}
use Rattle.shard_core.specs.declared.slots.LaneSlot.TheVariants.{Idle}
use Rattle.shard_core.proofs.slots.Slots.new.Given as goal

-- a slot for each lane so far
abbrev pub invariant-loop : goal.invariant-loop
invariant-loop l = l.slots.items ≡ replicate l.counter (Idle 0 0)
