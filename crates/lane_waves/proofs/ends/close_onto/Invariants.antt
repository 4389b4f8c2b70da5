use Rattle.std.proofs.Common.{◌≡◌, ◌≤◌, ◌+◌, length, vec_len}
use Rattle.std.specs.Prelude.{vec_capacity}
use Rattle.lane_waves.proofs.Closing.{Closing}
use Rattle.lane_waves.proofs.ends.close_onto.Given as goal

abbrev pub invariant-loop-lock : goal.invariant-loop-lock
invariant-loop-lock g l =
    Closing g.N.Sighted.sight g.N.Sighted.goes l.fn.locks.items l.fn.seats.items l.fn.watchers.items l.fn.nodes.items
    l.locks.items l.seats.items l.watchers.items l.nodes.items
    × (length l.nodes.items + length l.locks.items ≤ vec_capacity l.nodes)

abbrev pub decreases-loop-lock : goal.decreases-loop-lock
decreases-loop-lock g l = vec_len l.locks
