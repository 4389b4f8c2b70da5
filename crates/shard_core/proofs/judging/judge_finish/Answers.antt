use Rattle.std.proofs.Common.{◌≡◌, arith, sym, ap, ◌∙◌}
use Rattle.cbdc_types.specs.declared.calls.Refused.TheVariants.{Stale}
use Rattle.cbdc_model.specs.Next.{Refuse}
use Rattle.shard_core.proofs.Finishes.{finish_elsewhere, finish_idle}
use Rattle.shard_core.proofs.judging.judge_finish.Goals as goal

pub returns-then-given-number-clause-plan : goal.returns-then-given-number-clause-plan
returns-then-given-number-clause-plan c =
    λ J s e. finish_elsewhere J c.args.call.now.batch c.args.call.now.decisions c.args.call.now.cause c.args.slot.now _ c.other_number.result s
    c.number_of-number.ensures (λ q. omega (arith, q))
    c.other_number.ensures.stale c.other_number.ensures.ahead

pub returns-in-Idle-clause-plan : goal.returns-in-Idle-clause-plan
returns-in-Idle-clause-plan c =
    λ J s e.
    let n = rw c.in-Idle.is at c.number_of-number.ensures in
    let t = rw c.in-Idle.is at s in
    ap (λ k. Refuse (Stale k)) n ∙ sym (finish_idle J c.args.call.now.batch c.args.call.now.decisions c.args.call.now.cause c.in-Idle.number t.0
    (omega (arith, n)))

pub returns-in-Locked-clause-next : goal.returns-in-Locked-clause-next
returns-in-Locked-clause-next c =
    let k = rw c.in-Locked.is at c.number_of-number.ensures in
    let n : c.in-Locked.number ≡ c.args.call.now.batch.number = omega (arith, k) in
    rw (c.in-Locked.is, n) (rw c.as_slice.ensures at (c.finish_locked.ensures.next c.in-Locked.part))

pub returns-in-Locked-clause-plan : goal.returns-in-Locked-clause-plan
returns-in-Locked-clause-plan c =
    λ J s e.
    let k = rw c.in-Locked.is at c.number_of-number.ensures in
    let n : c.in-Locked.number ≡ c.args.call.now.batch.number = omega (arith, k) in
    c.finish_locked.ensures.plan J c.in-Locked.part (rw c.as_slice.ensures (rw n at (rw c.in-Locked.is at s))) e

pub returns-in-Finished-clause-next : goal.returns-in-Finished-clause-next
returns-in-Finished-clause-next c =
    let k = rw c.in-Finished.is at c.number_of-number.ensures in
    let n : c.in-Finished.number ≡ c.args.call.now.batch.number = omega (arith, k) in
    rw (c.in-Finished.is, n) (rw c.as_slice-in-Finished.ensures at
    (c.finish_again.ensures.next c.in-Finished.part c.in-Finished.replies c.in-Finished.locked_at))

pub returns-in-Finished-clause-plan : goal.returns-in-Finished-clause-plan
returns-in-Finished-clause-plan c =
    λ J s e.
    let k = rw c.in-Finished.is at c.number_of-number.ensures in
    let n : c.in-Finished.number ≡ c.args.call.now.batch.number = omega (arith, k) in
    c.finish_again.ensures.plan J c.in-Finished.part c.in-Finished.replies c.in-Finished.locked_at
    (rw c.as_slice-in-Finished.ensures (rw n at (rw c.in-Finished.is at s)))
