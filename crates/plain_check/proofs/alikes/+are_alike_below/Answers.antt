use Rattle.std.proofs.Common.{◌<◌, arith}
use Rattle.plain_check.specs.Journals.{journals_in}
use Rattle.plain_check.specs.Alikes.{IsAlikeAt}
use Rattle.plain_check.proofs.Finished.{one_more_below}
use Rattle.plain_check.proofs.alikes.+are_alike_below.Goals as goal

pub returns-then-is_alike_at : goal.returns-then-is_alike_at
returns-then-is_alike_at t c =
    let some : 0 < c.args.n = omega arith in
    one_more_below (λ s. IsAlikeAt c.args.shape.now (journals_in c.args.journals.now) c.args.batch.now s) c.args.n c.are_alike_below.result some
    (c.is_alike_at.ensures.0 c.if-is_alike_at.true) c.are_alike_below.ensures
