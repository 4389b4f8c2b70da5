use Rattle.std.proofs.Common.{◌≡◌, ◌-◌, ◌<◌, ◌++◌, arith}
use Rattle.std.proofs.lemmas.Grind.{common_steps}
use Rattle.cbdc_model.specs.History.{geneses}
use Rattle.plain_check.specs.Minting.{compact_mint}
use Rattle.plain_check.proofs.Firsts.{geneses_step}
use Rattle.plain_check.proofs.kept.+add_geneses.Goals as goal

pub returns : goal.returns
returns t c =
    let some : 0 < c.args.n = omega arith in
    let step = geneses_step c.args.shape.now (compact_mint c.args.mint.now) c.args.n some in
    let e : c.put.new.out.items ++ geneses c.args.shape.now (compact_mint c.args.mint.now) (c.args.n - 1)
    ≡ c.args.out.now.items ++ geneses c.args.shape.now (compact_mint c.args.mint.now) c.args.n = grind (arith, common_steps, step) in
    rw (← e) c.add_geneses.ensures
