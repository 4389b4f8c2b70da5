use Rattle.std.proofs.Common.{◌<◌, arith}
use Rattle.std.proofs.lemmas.Grind.{common_steps}
use Rattle.plain_check.specs.Journals.{journals_in}
use Rattle.plain_check.proofs.Steps.{batches_step}
use Rattle.plain_check.proofs.deciding.+batches_below.Goals as goal

pub returns : goal.returns
returns t c =
    let some : 0 < c.args.lanes = omega arith in
    let step = batches_step c.args.shape.now (journals_in c.args.entry.now) (journals_in c.args.exit.now) c.args.lanes some in
    grind (arith, common_steps, step)
