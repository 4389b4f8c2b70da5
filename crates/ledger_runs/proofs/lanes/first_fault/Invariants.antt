use Rattle.std.proofs.Common.{◌≡◌, ◌<◌, ℕ, Some, None}
use Rattle.std.specs.Prelude.{slice_get}
use Rattle.ledger_runs.specs.Lanes.{LaneOf}
use Rattle.ledger_runs.proofs.lanes.first_fault.Given as goal

abbrev pub invariant-lanes : goal.invariant-lanes
invariant-lanes g l = (k : ℕ) (x : LaneOf) → k < l.work-index → slice_get l.lanes k ≡ Some x → x.fault ≡ None
