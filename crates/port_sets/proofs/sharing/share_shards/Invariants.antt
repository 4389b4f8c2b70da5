use Rattle.std.proofs.Common.{◌≡◌, ◌≤◌, ◌+◌, length, vec_len}
use Rattle.std.specs.Prelude.{vec_capacity}
use Rattle.port_sets.proofs.Turning.{Sharing}
use Rattle.port_sets.proofs.sharing.share_shards.Given as goal

abbrev pub invariant-loop-node : goal.invariant-loop-node
invariant-loop-node g l = Sharing (λ s. s.node) l.fn.nodes.items l.nodes.items l.shared.items
    × (length l.nodes.items + length l.shared.items ≤ vec_capacity l.shared) × (vec_capacity l.nodes ≡ vec_capacity l.fn.nodes)

abbrev pub decreases-loop-node : goal.decreases-loop-node
decreases-loop-node g l = vec_len l.nodes
