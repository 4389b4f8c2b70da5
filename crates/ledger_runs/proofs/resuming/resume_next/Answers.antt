use Rattle.std.proofs.Common.{Some}
use Rattle.ledger_runs.proofs.Keeping.{keeps_found}
use Rattle.ledger_runs.proofs.WaveTelling.{takes_found}
use Rattle.ledger_runs.proofs.resuming.resume_next.Goals as goal

pub returns-in-Ok-clause-took : goal.returns-in-Ok-clause-took
returns-in-Ok-clause-took g c = keeps_found (g.L.Turns.shape c.args.ledger.now) c.args.lane (g.L.Turns.journals c.args.ledger.now)
    (g.L.Turns.journals c.take_up.new.self) (Some c.in-Ok.batch) _ _ c.in-Ok.ensures.took c.push_reserved.ensures.items

pub returns-in-Ok-clause-told : goal.returns-in-Ok-clause-told
returns-in-Ok-clause-told g c = takes_found (g.L.Turns.shape c.args.ledger.now) c.args.lane (g.L.Turns.journals c.args.ledger.now)
    (g.L.Turns.journals c.take_up.new.self) (Some c.in-Ok.batch) _ _ c.in-Ok.ensures.took c.in-Ok.ensures.opened c.push_reserved.ensures.items
