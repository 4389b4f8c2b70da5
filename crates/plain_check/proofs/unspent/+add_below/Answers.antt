use Rattle.std.proofs.Common.{◌≡◌, ◌-◌, ◌<◌, ◌++◌, arith}
use Rattle.std.proofs.lemmas.Grind.{common_steps}
use Rattle.plain_check.specs.Journals.{journals_in}
use Rattle.plain_check.specs.Named.{named_below}
use Rattle.plain_check.proofs.Entitled.{named_step}
use Rattle.plain_check.proofs.unspent.+add_below.Goals as goal

pub returns : goal.returns
returns t c =
    let some : 0 < c.args.n = omega arith in
    let step = named_step c.args.shape.now (journals_in c.args.journals.now) c.args.n some in
    let e : c.add_named.new.out.items ++ named_below c.args.shape.now (journals_in c.args.journals.now) (c.args.n - 1)
    ≡ c.args.out.now.items ++ named_below c.args.shape.now (journals_in c.args.journals.now) c.args.n = grind (arith, common_steps, step) in
    rw (← e) c.add_below.ensures
