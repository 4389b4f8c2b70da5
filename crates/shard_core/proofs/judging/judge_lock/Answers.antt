use Rattle.std.proofs.Common.{refl}
use Rattle.cbdc_model.specs.Slots.{InLock, InFinish}
use Rattle.shard_core.proofs.judging.judge_lock.Goals as goal

pub returns-in-Locked-clause-judged : goal.returns-in-Locked-clause-judged
returns-in-Locked-clause-judged c =
    λ J s. let t = rw c.in-Locked.is at s in c.lock_open.ensures.judged J InLock t.0 refl (rw c.as_slice.ensures t.2)

pub returns-in-Finished-clause-judged : goal.returns-in-Finished-clause-judged
returns-in-Finished-clause-judged c =
    λ J s. let t = rw c.in-Finished.is at s in c.lock_open-in-Finished.ensures.judged J InFinish t.0 refl (rw c.as_slice-in-Finished.ensures t.2)
