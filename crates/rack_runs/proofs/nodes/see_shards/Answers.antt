use Rattle.std.proofs.Common.{take, subst, sym, arith}
use Rattle.std.proofs.lemmas.List.Elements.{All-more, All-same}
use Rattle.file_runs.proofs.Steps.{take_whole}
use Rattle.rack_runs.specs.Works.{IsSeen}
use Rattle.rack_runs.proofs.Flown.{flies_broken}
use Rattle.rack_runs.proofs.nodes.see_shards.Goals as goal

pub shards-preserved : goal.shards-preserved
shards-preserved g c =
    let told = c.header-header.ensures.sound in
    let n = c.shard-item.result in
    All-more (IsSeen g.D.Disk) c.args.shards.now c.shards.shard-index n c.shards-test.true c.shards.invariant
    (subst (IsSeen g.D.Disk) c.shard-item.is (record {
      faults = told.count;
      capacity = told.capacity;
      room = told.room;
      fits = told.fits;
      flown = flies_broken n.broken n.flight n.opened n.faults told.landed told.since_broken;
    }))

pub returns : goal.returns
returns g c =
    All-same (IsSeen g.D.Disk) c.args.shards.now (take c.shards.shard-index c.args.shards.now)
    (sym (take_whole c.args.shards.now c.shards.shard-index (omega (arith, c.shards-test.false)))) c.shards.invariant
