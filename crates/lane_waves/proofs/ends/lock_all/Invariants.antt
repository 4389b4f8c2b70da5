use Rattle.std.proofs.Common.{◌≡◌, ◌≤◌, ◌+◌, length, vec_len}
use Rattle.std.specs.Prelude.{vec_capacity}
use Rattle.lane_waves.proofs.Locking.{Locking}
use Rattle.lane_waves.proofs.ends.lock_all.Given as goal

abbrev pub invariant-loop-node : goal.invariant-loop-node
invariant-loop-node g l =
    Locking g.N.Sighted.sight l.watcher l.fn.nodes.items l.fn.rows.items l.nodes.items l.rows.items l.locks.items l.seats.items l.watchers.items
    × (length l.rows.items ≡ length l.nodes.items) × (length l.nodes.items + length l.locks.items ≡ l.count)
    × (length l.seats.items ≡ length l.locks.items)
    × (l.count ≤ vec_capacity l.locks) × (l.count ≤ vec_capacity l.seats) × (l.count ≤ vec_capacity l.nodes) × (length l.fn.nodes.items ≡ l.count)
    × (length l.watchers.items ≡ length l.locks.items) × (l.count ≤ vec_capacity l.watchers)

abbrev pub decreases-loop-node : goal.decreases-loop-node
decreases-loop-node g l = vec_len l.nodes
