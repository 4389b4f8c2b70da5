use Rattle.std.proofs.Common.{◌≡◌, ◌≤◌, length, take, reverse}
use Rattle.cbdc_model.specs.Slots.{slot_stamp}
use Rattle.coord_log.proofs.copying.stamp_of.Given as goal

abbrev pub invariant-records : goal.invariant-records
invariant-records l = record {
  within : l.i ≤ length l.records;
  same : slot_stamp (reverse (take l.i l.records)) l.lane ≡ slot_stamp (reverse l.records) l.lane;
}
