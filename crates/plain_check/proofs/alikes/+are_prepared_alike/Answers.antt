use Rattle.plain_check.specs.Journals.{journals_in}
use Rattle.plain_check.proofs.Finished.{prepared_next}
use Rattle.plain_check.proofs.alikes.+are_prepared_alike.Goals as goal

pub returns-then-is_prepared_alike : goal.returns-then-is_prepared_alike
returns-then-is_prepared_alike t c =
    prepared_next c.args.shape.now (journals_in c.args.journals.now) c.args.node c.args.past.now c.in-Some.r.now c.in-Some.rest.now
    c.are_prepared_alike.result
    c.in-Some.ensures.cases.0 (c.is_prepared_alike.ensures.0 c.if-is_prepared_alike.true) c.are_prepared_alike.ensures
