use Rattle.std.proofs.Common.{arith}
use Rattle.shard_core.proofs.Forgets.{forget_elsewhere}
use Rattle.shard_core.proofs.judging.judge_forget.Goals as goal

pub returns-then-given-number-clause-plan : goal.returns-then-given-number-clause-plan
returns-then-given-number-clause-plan c =
    λ J s e. forget_elsewhere J c.args.call.now.batch c.args.call.now.cause c.args.slot.now _ c.other_number.result s c.number_of-number.ensures
    (λ q. omega (arith, q))
    c.other_number.ensures.stale c.other_number.ensures.ahead
