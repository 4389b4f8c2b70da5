use Rattle.std.proofs.Common.{◌≡◌, ◌+◌, ◌-◌, ◌<◌, ◌++◌, arith}
use Rattle.std.proofs.lemmas.Grind.{common_steps}
use Rattle.plain_check.specs.Journals.{journals_from}
use Rattle.plain_check.proofs.Placing.{journals_step}
use Rattle.plain_check.proofs.standing.+add_journals.Goals as goal

pub returns : goal.returns
returns t c =
    let some : 0 < c.args.n = omega arith in
    let step = journals_step c.args.rows.now c.args.node c.args.n some in
    let e : c.put.new.out.items ++ journals_from c.args.rows.now (c.args.node + 1) (c.args.n - 1)
    ≡ c.args.out.now.items ++ journals_from c.args.rows.now c.args.node c.args.n =
    grind (arith, common_steps, step) in
    rw (← e) c.add_journals.ensures
