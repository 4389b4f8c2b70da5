use Rattle.std.proofs.Common.{map, take}
use Rattle.rack_runs.specs.Telling.{CountAll}
use Rattle.rack_runs.proofs.nodes.unspent_of.Given as goal

abbrev pub invariant-shards : goal.invariant-shards
invariant-shards g l = CountAll (map (λ s. s.journal) (take l.shard-index l.shards)) l.unspent
