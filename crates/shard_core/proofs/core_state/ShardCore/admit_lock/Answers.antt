use Rattle.std.proofs.Common.{sym, ◌∙◌}
use Rattle.shard_core.proofs.Follow.{lock_follows}
use Rattle.shard_core.proofs.core_state.ShardCore.admit_lock.Goals as goal

pub returns-clause-next : goal.returns-clause-next
returns-clause-next c past stands =
    let given = rw (c.as_slice.ensures.value, c.in_ok-entries.ensures) at c.in_ok-replies.ensures.replies past stands.hashes in
    lock_follows past c.args.batch.now c.args.answered.now ((c.is_open_to.ensures.lane past stands).0 c.if-not-is_open_to.false)
    (sym given ∙ sym c.as_slice-2.ensures.value ∙ c.same_replies.ensures.0 c.if-not-same_replies.false)
