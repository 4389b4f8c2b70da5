use Rattle.std.proofs.Common.{◌≡◌, ◌≤◌, length, take, reverse}
use Rattle.cbdc_model.specs.Records.{outcomes_of}
use Rattle.coord_log.proofs.copying.outcomes_of.Given as goal

abbrev pub invariant-records : goal.invariant-records
invariant-records l = record {
  within : l.i ≤ length l.records;
  same : outcomes_of (reverse (take l.i l.records)) l.wanted ≡ outcomes_of (reverse l.records) l.wanted;
}
