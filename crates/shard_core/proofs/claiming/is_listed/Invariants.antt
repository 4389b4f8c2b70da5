use Rattle.std.proofs.Common.{◌≡◌, false, take}
use Rattle.cbdc_model.specs.Status.{has}
use Rattle.shard_core.proofs.claiming.is_listed.Given as goal

-- the hash is none of those so far
abbrev pub invariant-loop-y : goal.invariant-loop-y
invariant-loop-y l = has (take l.y-index l.hashes) l.x ≡ false
