use Rattle.std.proofs.Common.{◌≡◌, take}
use Rattle.cbdc_model.specs.Ranges.{on_shard}
use Rattle.ledger_init.proofs.dealing.hashes_on.Given as goal

abbrev pub invariant-hashes : goal.invariant-hashes
invariant-hashes l = l.list.items ≡ on_shard l.shape l.shard (take l.hash-index l.hashes)
