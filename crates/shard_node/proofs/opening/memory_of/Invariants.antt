use Rattle.std.proofs.Common.{◌≡◌, ◌≤◌, length, vec_capacity, All}
use Rattle.shard_node.proofs.opening.memory_of.Given as goal

abbrev pub invariant-lanes : goal.invariant-lanes
invariant-lanes l = (length l.memory.items ≡ l._lane) × All (λ m. l.batch ≤ vec_capacity m) l.memory.items
