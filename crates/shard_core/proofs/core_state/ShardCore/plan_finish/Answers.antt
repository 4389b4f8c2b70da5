use Rattle.shard_core.proofs.Applies.{finish_ready}
use Rattle.shard_core.proofs.core_state.ShardCore.plan_finish.Goals as goal

pub returns-clause-ready : goal.returns-clause-ready
returns-clause-ready c =
    finish_ready c.args.self.now c.args.call.now.batch c.args.call.now.decisions c.slot.result.now c.judge_finish.result c.slot.ensures
    c.args.self.now.paired c.judge_finish.ensures.next
