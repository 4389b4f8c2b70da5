use Rattle.std.proofs.Common.{take}
use Rattle.std.specs.List.{All}
use Rattle.rack_runs.specs.Works.{IsSeen}
use Rattle.rack_runs.proofs.nodes.see_shards.Given as goal

abbrev pub invariant-shards : goal.invariant-shards
invariant-shards g l = All (IsSeen g.D.Disk) (take l.shard-index l.shards)
