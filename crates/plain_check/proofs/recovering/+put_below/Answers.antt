use Rattle.std.proofs.Common.{◌≡◌, ◌<◌, ◌-◌, ◌++◌, arith}
use Rattle.std.proofs.lemmas.Grind.{common_steps}
use Rattle.plain_check.specs.Journals.{journals_in}
use Rattle.printed_lines.specs.Recoveries.{lane_line, resumed_below}
use Rattle.plain_check.proofs.Steps.{resumed_step}
use Rattle.plain_check.proofs.recovering.+put_below.Goals as goal

pub returns : goal.returns
returns t c =
    let some : 0 < c.args.lanes = omega arith in
    let step = resumed_step c.args.shape.now (journals_in c.args.entry.now) (journals_in c.args.exit.now) c.args.lanes some in
    let e : c.put_below.new.page.text.items ++ lane_line (c.args.lanes - 1) c.journal_at.result.now c.journal_at-2.result.now
    ≡ c.args.page.now.text.items ++ resumed_below c.args.shape.now (journals_in c.args.entry.now) (journals_in c.args.exit.now) c.args.lanes =
    grind (arith, common_steps, step) in
    rw (← e) c.put_lane.ensures
