use Rattle.std.proofs.Common.{◌≡◌, ◌-◌, ◌^◌, min, take}
use Rattle.std.specs.Prelude.{sum_by}
use Rattle.cbdc_model.specs.Room.{answered_size}
use Rattle.record_log.proofs.sizes.bytes_of_entries.Given as goal

abbrev pub invariant-entries : goal.invariant-entries
invariant-entries l = l.total ≡ min (sum_by answered_size (take l.entry-index l.entries)) (2 ^ 64 - 1)
