use Rattle.std.proofs.Common.{refl}
use Rattle.rack_runs.proofs.Unspent.{count_next, count_whole}
use Rattle.rack_runs.proofs.nodes.unspent_of.Goals as goal

pub shards-init : goal.shards-init
shards-init g c = refl

pub shards-preserved : goal.shards-preserved
shards-preserved g c =
    count_next c.args.shards.now c.shards.shard-index c.shards.unspent c.unspent_len.result c.in-Some.sum c.shard-item.result c.shards-test.true
    c.shard-item.is c.shards.invariant c.unspent_len.ensures c.in-Some.ensures.1

pub returns : goal.returns
returns g c = count_whole c.args.shards.now c.shards.shard-index c.shards.unspent c.shards-test.false c.shards.invariant
