use Rattle.std.proofs.Common.{◌≡◌, ◌++◌, map, drop}
use Rattle.cbdc_model.specs.Coins.{coin_hash, made_coins}
use Rattle.sentinel.proofs.compacting.made_hashes.Given as goal

abbrev pub invariant-outputs : goal.invariant-outputs
invariant-outputs l = l.hashes.items ++ map coin_hash (made_coins l.id l.index (drop l.index l.outputs)) ≡ map coin_hash (made_coins l.id 0 l.outputs)
