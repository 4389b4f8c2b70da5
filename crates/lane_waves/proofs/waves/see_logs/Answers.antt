use Rattle.std.proofs.Common.{◌≤◌, take, sym, subst, arith}
use Rattle.std.proofs.lemmas.List.{take_all}
use Rattle.std.proofs.lemmas.List.Elements.{All-more, All-same}
use Rattle.lane_waves.proofs.waves.see_logs.Goals as goal

pub logs-preserved : goal.logs-preserved
logs-preserved g c = All-more (λ l. l.opened ≤ l.faults) c.args.logs.now c.logs.log-index c.log-item.result c.logs-test.true c.logs.invariant
    (subst (λ l. l.opened ≤ l.faults) c.log-item.is c.header-header.ensures.sound.since_opened)

pub returns : goal.returns
returns g c =
    let whole = take_all c.logs.log-index c.args.logs.now (omega (arith, c.logs-test.false)) in
    All-same (λ l. l.opened ≤ l.faults) c.args.logs.now (take c.logs.log-index c.args.logs.now) (sym whole) c.logs.invariant
