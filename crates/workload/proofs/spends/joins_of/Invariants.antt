use Rattle.std.proofs.Common.{◌≡◌, map}
use Rattle.std.specs.List.{range_with_len}
use Rattle.workload.specs.Generator.{join_of}
use Rattle.workload.proofs.spends.joins_of.Given as goal

abbrev pub invariant-joins : goal.invariant-joins
invariant-joins l = l.joins.items ≡ map (join_of l.seed l.count l.genesis) (range_with_len 0 l.i)
