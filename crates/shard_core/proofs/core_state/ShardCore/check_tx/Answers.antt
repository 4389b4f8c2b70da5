use Rattle.std.proofs.Common.{arith, ◌*◌, sym, ◌∙◌}
use Rattle.shard_core.proofs.Remembering.{fate_told}
use Rattle.shard_core.proofs.core_state.ShardCore.check_tx.Goals as goal

pub returns-then-is_some : goal.returns-then-is_some
returns-then-is_some c past stands =
    let here = c.remembered_in-found.ensures past c.loop-lane.lane (stands.lanes c.loop-lane.lane c.slot.result.now c.slot.ensures) in
    fate_told past c.args.id.now (c.args.self.now.header.shape.coordinators * c.args.self.now.header.shape.lanes) c.loop-lane.lane
    c.remembered_in-found.result (omega (arith, c.lane_count-lane-end.ensures.value)) (c.loop-lane.invariant past stands) here
    (sym c.is_some.ensures ∙ c.if-is_some.true)
