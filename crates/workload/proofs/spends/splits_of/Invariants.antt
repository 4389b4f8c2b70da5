use Rattle.std.proofs.Common.{◌≡◌, map}
use Rattle.std.specs.List.{range_with_len}
use Rattle.workload.specs.Generator.{split_of}
use Rattle.workload.proofs.spends.splits_of.Given as goal

abbrev pub invariant-splits : goal.invariant-splits
invariant-splits l = l.splits.items ≡ map (split_of l.seed l.count l.genesis) (range_with_len 0 l.i)
