use Rattle.std.proofs.Common.{◌≡◌, ◌≤◌, length, take, reverse}
use Rattle.cbdc_model.specs.Records.{txs_of}
use Rattle.coord_log.proofs.copying.txs_of.Given as goal

abbrev pub invariant-records : goal.invariant-records
invariant-records l = record {
  within : l.i ≤ length l.records;
  same : txs_of (reverse (take l.i l.records)) l.wanted ≡ txs_of (reverse l.records) l.wanted;
}
