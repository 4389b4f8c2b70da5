use Rattle.rack_ledgers.proofs.Lending.{lent_more}
use Rattle.rack_ledgers.proofs.lent.lend_shards.Goals as goal

pub shards-preserved : goal.shards-preserved
shards-preserved g c =
    lent_more (λ x. x.journal) c.shards.all.items c.push.new.self.items c.records.result _ c.args.shards.now c.shards.shard-index c.shard-item.result
    c.shards-test.true c.shard-item.is c.in_ok-push.ensures.items c.records.ensures.records c.shards.invariant
