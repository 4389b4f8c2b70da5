use Rattle.cbdc_model.specs.Records.{entries_in}
use Rattle.cbdc_model.specs.Causes.{at_shards}
use Rattle.audit.proofs.Deciding.{outcomes_if_ok}
use Rattle.audit.proofs.outcomes.outcomes_by_locks.Goals as goal

pub returns : goal.returns
returns c = λ J h. outcomes_if_ok (λ s. entries_in (at_shards c.args.shape.now J 2 c.args.batch.now s)) c.args.shape.now.shards c.args.txs.now
    c.outcomes_from.result c.outcomes_from.ensures.len (c.outcomes_from.ensures.outcomes J h)
