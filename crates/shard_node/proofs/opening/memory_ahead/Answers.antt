use Rattle.std.proofs.Common.{◌∙◌}
use Rattle.shard_node.proofs.Opens.{opened_shard}
use Rattle.shard_node.proofs.opening.memory_ahead.Goals as goal

pub returns-clause-shard : goal.returns-clause-shard
returns-clause-shard g c =
    let n = c.args.node.now in
    opened_shard n c.reserve.new.self c.in_ok-decisions.decisions c.kept_room-need.result c.requires c.kept_room-need.ensures
    c.reserve.ensures.untouched c.reserve.ensures.records c.reserve.ensures.header
    (c.in_ok-decisions.ensures.lanes ∙ c.lane_count.ensures.value) (rw c.batch.ensures.value at c.in_ok-decisions.ensures.room)
    c.in_ok-reserve.ensures.room
