use Rattle.std.proofs.Common.{◌≤◌, take}
use Rattle.std.specs.List.{All}
use Rattle.lane_waves.proofs.waves.see_shards.Given as goal

abbrev pub invariant-shards : goal.invariant-shards
invariant-shards g l = All (λ s. (g.S.Shard.sight s).opened ≤ (g.S.Shard.sight s).faults) (take l.shard-index l.shards)
