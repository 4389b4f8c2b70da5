use Rattle.std.proofs.Common.{◌≡◌, ◌∙◌, ◌<◌, ℕ, ap, subst, length, get_or, None}
use Rattle.audit.specs.Knowing.{reply_with}
use Rattle.audit.proofs.Deciding.{more_replies}
use Rattle.audit.proofs.outcomes.replies_by_place.Goals as goal

pub loop-answered-preserved : goal.loop-answered-preserved
loop-answered-preserved c =
    let same : length c.keep_reply.new.replies ≡ length c.loop-answered.replies.items =
    c.keep_reply.ensures.len ∙ ap length c.deref_mut.ensures.value in
    more_replies c.loop-answered.replies.len c.keep_reply.new.replies c.loop-answered.replies.items c.args.n c.args.es.now
    c.loop-answered.answered-index c.answered-item.result
    c.loop-answered.replies.ok.0 same c.loop-answered.invariant.0 c.loop-answered.invariant.1 c.loop-answered-test.true c.answered-item.is
    (subst (λ l. (k : ℕ) → k < length l → get_or c.keep_reply.new.replies k None ≡ reply_with (get_or l k None) c.answered-item.result k)
    c.deref_mut.ensures.value c.keep_reply.ensures.replies)
