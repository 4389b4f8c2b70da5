use Rattle.std.proofs.Common.{◌∙◌}
use Rattle.audit.proofs.Deciding.{won_there, won_past}
use Rattle.audit.proofs.outcomes.won_at.Goals as goal

pub returns-in-Some : goal.returns-in-Some
returns-in-Some c =
    let e = c.in-Some.ensures.lookup in
    c.is_won.ensures ∙ won_there c.args.outcomes.now c.args.place c.in-Some.outcome.now e.3.0 e.1

pub returns-in-None : goal.returns-in-None
returns-in-None c = let e = c.in-None.ensures.lookup in won_past c.args.outcomes.now c.args.place e.3
