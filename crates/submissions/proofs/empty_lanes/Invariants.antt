use Rattle.std.proofs.Common.{◌≡◌, length}
use Rattle.submissions.specs.Checks.{AllEmpty}
use Rattle.submissions.proofs.empty_lanes.Given as goal

abbrev pub invariant-lanes : goal.invariant-lanes
invariant-lanes l = record {
  count : length l.lanes.items ≡ l.counter;
  empty : AllEmpty l.lanes.items;
}
