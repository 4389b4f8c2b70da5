use Rattle.std.proofs.Common.{◌≡◌, map, take}
use Rattle.cbdc_model.specs.Coins.{coin_hash}
use Rattle.sentinel.proofs.compacting.spent_hashes.Given as goal

abbrev pub invariant-inputs : goal.invariant-inputs
invariant-inputs l = l.hashes.items ≡ map coin_hash (take l.input-index l.inputs)
