use Rattle.std.proofs.Common.{◌≡◌, ◌+◌, ◌++◌, take}
use Rattle.std.specs.Vec.{vec_capacity, vec_len}
use Rattle.ledger_runs.specs.Telling.{decided_in, kept_by}
use Rattle.lane_waves.proofs.lanes.keep_outcomes.Given as goal

abbrev pub invariant-outcomes : goal.invariant-outcomes
invariant-outcomes l = record {
  kept : kept_by l.decided.items ≡ kept_by l.fn.decided.items ++ decided_in l.batch (take l.outcome-index l.outcomes);
  len : vec_len l.decided ≡ vec_len l.fn.decided + l.outcome-index;
  capacity : vec_capacity l.decided ≡ vec_capacity l.fn.decided;
}
