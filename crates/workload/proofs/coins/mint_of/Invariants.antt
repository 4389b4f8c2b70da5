use Rattle.std.proofs.Common.{◌≡◌, map}
use Rattle.std.specs.List.{range_with_len}
use Rattle.workload.specs.Generator.{coin}
use Rattle.workload.proofs.coins.mint_of.Given as goal

abbrev pub invariant-coins : goal.invariant-coins
invariant-coins l = l.coins.items ≡ map (coin l.seed) (range_with_len 0 l.i)
