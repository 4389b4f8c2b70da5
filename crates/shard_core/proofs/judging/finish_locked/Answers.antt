use Rattle.std.proofs.Common.{refl, arith, sym, ap, ◌∙◌}
use Rattle.cbdc_model.specs.Next.{Append}
use Rattle.shard_core.proofs.Finishes.{finish_misfit, finish_early, finish_next}
use Rattle.shard_core.proofs.Places.{fits_length}
use Rattle.shard_core.proofs.judging.finish_locked.Goals as goal

pub returns-in-Some-clause-plan : goal.returns-in-Some-clause-plan
returns-in-Some-clause-plan c =
    λ J part s e. sym (finish_misfit J c.args.call.now.batch c.args.call.now.decisions c.args.call.now.cause part c.args.replies.now c.args.stamp
    c.in-Some.at s (rw c.as_slice.ensures at c.in-Some.ensures))

pub returns-in-None-clause-plan : goal.returns-in-None-clause-plan
returns-in-None-clause-plan c =
    λ J part s e. sym (finish_early J c.args.call.now.batch c.args.call.now.decisions c.args.call.now.cause part c.args.replies.now c.args.stamp s
    (rw c.as_slice.ensures at c.in-None.ensures) (omega arith))

pub returns-in-None-2-clause-plan : goal.returns-in-None-2-clause-plan
returns-in-None-2-clause-plan c =
    λ J part s e. ap Append e ∙ sym (finish_next J c.args.call.now.batch c.args.call.now.decisions c.args.call.now.cause part c.args.replies.now
    c.args.stamp s (rw c.as_slice.ensures at c.in-None-2.ensures) (omega arith))

pub returns-in-None-2-clause-next : goal.returns-in-None-2-clause-next
returns-in-None-2-clause-next c = λ part. (
  refl,
  fits_length c.args.replies.now c.args.call.now.decisions (rw c.as_slice.ensures at c.in-None-2.ensures),
)
