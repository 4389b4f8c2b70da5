use Rattle.std.proofs.Common.{◌≡◌, ◌-◌, ◌^◌, min, take}
use Rattle.std.specs.Prelude.{sum_by}
use Rattle.cbdc_model.specs.Room.{compact_size}
use Rattle.record_log.proofs.sizes.bytes_of_compacts.Given as goal

abbrev pub invariant-txs : goal.invariant-txs
invariant-txs l = l.total ≡ min (sum_by compact_size (take l.tx-index l.txs)) (2 ^ 64 - 1)
