use Rattle.std.proofs.Common.{sym}
use Rattle.shard_core.proofs.Finishes.{finish_other, finish_kept}
use Rattle.shard_core.proofs.judging.finish_again.Goals as goal

pub returns-in-Some-clause-plan : goal.returns-in-Some-clause-plan
returns-in-Some-clause-plan c =
    λ J part rs t s. sym (finish_other J c.args.call.now.batch c.args.call.now.decisions c.args.call.now.cause part rs c.args.decisions.now t
    c.args.stamp c.in-Some.at s (rw c.as_slice.ensures at c.in-Some.ensures))

pub returns-in-None-clause-plan : goal.returns-in-None-clause-plan
returns-in-None-clause-plan c =
    λ J part rs t s. sym (finish_kept J c.args.call.now.batch c.args.call.now.decisions c.args.call.now.cause part rs c.args.decisions.now t
    c.args.stamp s (rw c.as_slice.ensures at c.in-None.ensures))
