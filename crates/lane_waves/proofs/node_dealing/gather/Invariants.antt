use Rattle.std.proofs.Common.{◌≡◌, ◌≤◌, ◌+◌, length, vec_len}
use Rattle.std.specs.Prelude.{vec_capacity}
use Rattle.lane_waves.specs.Dealing.{HaveRoomForOne}
use Rattle.lane_waves.proofs.Rounds.{Gathering}
use Rattle.lane_waves.proofs.node_dealing.gather.Given as goal

abbrev pub invariant-loop-row : goal.invariant-loop-row
invariant-loop-row g l = Gathering l.fn.rows.items l.rows.items l.spare.items l.fn.items.items l.items.items × HaveRoomForOne l.rows.items
    × (length l.items.items ≡ length l.rows.items) × (length l.rows.items + length l.spare.items ≤ vec_capacity l.spare)
    × (vec_capacity l.rows ≡ vec_capacity l.fn.rows) × (vec_capacity l.spare ≡ vec_capacity l.fn.spare)
    × (vec_capacity l.items ≡ vec_capacity l.fn.items)

abbrev pub decreases-loop-row : goal.decreases-loop-row
decreases-loop-row g l = vec_len l.rows
