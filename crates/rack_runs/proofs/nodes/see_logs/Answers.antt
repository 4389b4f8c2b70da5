use Rattle.std.proofs.Common.{take, subst, sym, arith}
use Rattle.std.proofs.lemmas.List.Elements.{All-more, All-same}
use Rattle.file_runs.proofs.Steps.{take_whole}
use Rattle.rack_runs.specs.Works.{IsSeen}
use Rattle.rack_runs.proofs.Flown.{flies_broken}
use Rattle.rack_runs.proofs.nodes.see_logs.Goals as goal

pub logs-preserved : goal.logs-preserved
logs-preserved g c =
    let told = c.header-header.ensures.sound in
    let n = c.log-item.result in
    All-more (IsSeen g.D.Disk) c.args.logs.now c.logs.log-index n c.logs-test.true c.logs.invariant
    (subst (IsSeen g.D.Disk) c.log-item.is (record {
      faults = told.count;
      capacity = told.capacity;
      room = told.room;
      fits = told.fits;
      flown = flies_broken n.broken n.flight n.opened n.faults told.landed told.since_broken;
    }))

pub returns : goal.returns
returns g c =
    All-same (IsSeen g.D.Disk) c.args.logs.now (take c.logs.log-index c.args.logs.now)
    (sym (take_whole c.args.logs.now c.logs.log-index (omega (arith, c.logs-test.false)))) c.logs.invariant
