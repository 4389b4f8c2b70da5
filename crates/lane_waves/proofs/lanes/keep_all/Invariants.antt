use Rattle.std.proofs.Common.{◌≡◌, ◌+◌, ◌≤◌, ◌++◌, drop, length, min}
use Rattle.std.specs.Vec.{vec_capacity, vec_len}
use Rattle.ledger_runs.specs.Telling.{kept_by}
use Rattle.thread_laws.specs.Telling.{told_in}
use Rattle.lane_waves.proofs.lanes.keep_all.Given as goal

abbrev pub invariant-reports : goal.invariant-reports
invariant-reports l = record {
  same : l.lane.fault ≡ l.fn.lane.fault;
  kept : kept_by l.lane.decided.items ++ told_in (drop l.report-index l.reports) ≡ kept_by l.fn.lane.decided.items ++ told_in l.reports;
  room : vec_len l.lane.decided + length (told_in (drop l.report-index l.reports)) ≤ vec_capacity l.lane.decided;
  count : l.fn.lane.batches ≡ 0 → l.lane.batches ≡ min l.report-index 18446744073709551615;
}
