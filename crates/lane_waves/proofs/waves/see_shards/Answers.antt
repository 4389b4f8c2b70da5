use Rattle.std.proofs.Common.{◌≤◌, take, sym, subst, arith}
use Rattle.std.proofs.lemmas.List.{take_all}
use Rattle.std.proofs.lemmas.List.Elements.{All-more, All-same}
use Rattle.lane_waves.proofs.waves.see_shards.Goals as goal

pub shards-preserved : goal.shards-preserved
shards-preserved g c = All-more (λ s. (g.S.Shard.sight s).opened ≤ (g.S.Shard.sight s).faults) c.args.shards.now c.shards.shard-index
    c.shard-item.result c.shards-test.true c.shards.invariant
    (subst (λ s. (g.S.Shard.sight s).opened ≤ (g.S.Shard.sight s).faults) c.shard-item.is c.header-header.ensures.since_opened)

pub returns-clause-since : goal.returns-clause-since
returns-clause-since g c =
    let whole = take_all c.shards.shard-index c.args.shards.now (omega (arith, c.shards-test.false)) in
    All-same (λ s. (g.S.Shard.sight s).opened ≤ (g.S.Shard.sight s).faults) c.args.shards.now (take c.shards.shard-index c.args.shards.now)
    (sym whole) c.shards.invariant

pub returns-clause-stay : goal.returns-clause-stay
returns-clause-stay g c = g.met.S.Shard.same
