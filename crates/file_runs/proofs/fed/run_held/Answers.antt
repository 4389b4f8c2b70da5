use Rattle.std.proofs.Common.{sym, subst}
use Rattle.file_runs.specs.Waving.{IsWave}
use Rattle.file_runs.proofs.Holding.{can_run, run}
use Rattle.file_runs.proofs.fed.run_held.Goals as goal

pub run_wave-ledger-requires-clause-limits : goal.run_wave-ledger-requires-clause-limits
run_wave-ledger-requires-clause-limits g c κs k =
    (can_run g.D.Disk g.B.Waving.before g.B.Waving.lanes c.held.inside.ledger c.held.inside.works.items c.held.inside.has_run c.in-Some.ledger
    c.held.invariant c.if-held.false (sym c.in-Some.ensures.value)).limits

pub run_wave-ledger-requires-clause-idle : goal.run_wave-ledger-requires-clause-idle
run_wave-ledger-requires-clause-idle g c κs k =
    (can_run g.D.Disk g.B.Waving.before g.B.Waving.lanes c.held.inside.ledger c.held.inside.works.items c.held.inside.has_run c.in-Some.ledger
    c.held.invariant c.if-held.false (sym c.in-Some.ensures.value)).idle

pub run_wave-ledger-requires-clause-checked : goal.run_wave-ledger-requires-clause-checked
run_wave-ledger-requires-clause-checked g c κs k =
    (can_run g.D.Disk g.B.Waving.before g.B.Waving.lanes c.held.inside.ledger c.held.inside.works.items c.held.inside.has_run c.in-Some.ledger
    c.held.invariant c.if-held.false (sym c.in-Some.ensures.value)).checked

pub invariant_of-held : goal.invariant_of-held
invariant_of-held g c =
    run g.D.Disk g.B.Waving.before g.B.Waving.lanes c.held.inside.ledger c.held.inside.works.items c.held.inside.has_run c.in-Some.ledger
    c.held.invariant c.if-held.false (sym c.in-Some.ensures.value) c.run_wave-ledger.result c.end_ahead.new.works.items c.replace-2.new.dest
    (subst (λ xs. IsWave g.D.Disk c.in-Some.ledger c.run_wave-ledger.result c.held.inside.works.items xs) (sym c.end_ahead.ensures)
    c.run_wave-ledger.ensures.wave)
    c.replace-2.ensures.after
