use Rattle.std.proofs.Common.{◌≤◌, ◌+◌, length, vec_len}
use Rattle.std.specs.Prelude.{vec_capacity}
use Rattle.port_sets.proofs.Turning.{Owning}
use Rattle.port_sets.proofs.sharing.own_shards.Given as goal

abbrev pub invariant-loop-node : goal.invariant-loop-node
invariant-loop-node g l = Owning (λ s. s.node) l.fn.shared.items l.shared.items l.nodes.items
    × (length l.shared.items + length l.nodes.items ≤ vec_capacity l.nodes)

abbrev pub decreases-loop-node : goal.decreases-loop-node
decreases-loop-node g l = vec_len l.shared
