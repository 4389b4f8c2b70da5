use Rattle.std.proofs.Common.{◌≡◌, ◌∙◌}
use Rattle.shard_core.proofs.Applies.{known}
use Rattle.shard_core.proofs.core_state.ShardCore.plan_lock.Goals as goal

pub returns-in_ok-make_room-in-Next-clause-ready : goal.returns-in_ok-make_room-in-Next-clause-ready
returns-in_ok-make_room-in-Next-clause-ready c =
    let kept : c.from_vec-in-Next.result ≡ c.in_ok-replies-in-Next.replies.items =
    c.from_vec-in-Next.ensures ∙ c.in_ok-kept-in-Next.ensures.items ∙ c.as_slice.ensures.value in
    let r = rw (c.from_vec.ensures, c.in_ok-part-in-Next.ensures, c.as_slice-entries.ensures, kept) at c.in_ok-make_room-in-Next.ensures.ready in
    let same = c.make_room.ensures.same.slots in (
      rw c.from_vec-in-Next-2.ensures r,
      λ s h. let e = known c.args.self.now.slots c.args.call.now.batch.lane s c.slot-slot.result.now (rw same at h) c.slot-slot.ensures in
          rw e c.in-Next.ensures.next,
    )
