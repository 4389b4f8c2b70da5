use Rattle.std.proofs.Common.{◌+◌, ap, ◌∙◌, refl}
use Rattle.plain_check.specs.Journals.{journals_in}
use Rattle.plain_check.proofs.Finished.{finished_by}
use Rattle.plain_check.proofs.alikes.is_finished.Goals as goal

pub returns-then-has_one_each : goal.returns-then-has_one_each
returns-then-has_one_each c =
    let each = c.has_one_each.ensures.0 c.if-has_one_each.true in
    finished_by c.args.shape.now (journals_in c.args.journals.now) c.args.batch.now c.args.shard c.are_decided.result c.journal_at-own.result.now
    c.home_journal-home.result.now
    c.txs_of.result.now c.outcomes_of.result.now c.finished_decisions.result.now
    (c.journal_at-own.ensures ∙ ap (λ n. journals_in c.args.journals.now (n + c.args.shard)) c.coordinators.ensures.value)
    c.home_journal-home.ensures
    c.txs_of.ensures c.outcomes_of.ensures c.finished_decisions.ensures each.0 each.1 (c.are_decided.ensures c.outcomes_of.result.now 0 refl)
