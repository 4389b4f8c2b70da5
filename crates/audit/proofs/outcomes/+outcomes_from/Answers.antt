use Rattle.std.proofs.Common.{◌∙◌, ◌<◌, ℕ, ap, sym, subst, arith, length, get_or, List, None}
use Rattle.std.proofs.lemmas.Grind.{common_steps}
use Rattle.cbdc_model.specs.Records.{entries_in, Answered, Won}
use Rattle.cbdc_model.specs.Causes.{at_shards}
use Rattle.cbdc_model.specs.Outcomes.{outcome_by, reply_at}
use Rattle.audit.proofs.Deciding.{written_back, outcome_step}
use Rattle.audit.proofs.outcomes.+outcomes_from.Goals as goal

pub returns-clause-outcomes : goal.returns-clause-outcomes
returns-clause-outcomes t c = λ J h k lt.
    let locks : ℕ → List Answered = λ s. entries_in (at_shards c.args.shape.now J 2 c.args.batch.now s) in
    let below : c.args.shard < c.args.shape.now.shards = omega arith in
    let inside : k < length c.deref_mut.result.now =
    subst (λ l. k < length l) (sym c.deref_mut.ensures.value) (subst (λ n. k < n) (sym c.in_ok-outcomes.ensures.len) lt) in
    ap (λ l. get_or l k Won) (written_back c.in_ok-outcomes.outcomes.len c.decide_by.new.outcomes c.in_ok-outcomes.outcomes.items
    c.in_ok-outcomes.outcomes.ok.0 (c.decide_by.ensures.len ∙ ap length c.deref_mut.ensures.value))
    ∙ c.decide_by.ensures.outcomes k inside
    ∙ ap (λ l. outcome_by (get_or l k None) c.args.shard (get_or c.deref_mut.result.now k Won)) c.deref.ensures.value
    ∙ ap (λ l. outcome_by (get_or c.in_ok-replies.replies.items k None) c.args.shard (get_or l k Won)) c.deref_mut.ensures.value
    ∙ ap (λ r. outcome_by r c.args.shard (get_or c.in_ok-outcomes.outcomes.items k Won))
    (c.in_ok-replies.ensures.replies k lt ∙ ap (λ l. reply_at l k) (c.entries_at-entries.ensures J h))
    ∙ ap (λ o. outcome_by (reply_at (locks c.args.shard) k) c.args.shard o) (c.in_ok-outcomes.ensures.outcomes J h k lt)
    ∙ sym (outcome_step locks k c.args.shard c.args.shape.now.shards below)

pub returns-clause-len : goal.returns-clause-len
returns-clause-len t c = grind (arith, common_steps)
