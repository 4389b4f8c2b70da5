use Rattle.std.proofs.Common.{◌≡◌, length, take}
use Rattle.std.specs.Vec.{vec_capacity, vec_len}
use Rattle.std.specs.List.{AllZip}
use Rattle.ledger_runs.specs.Planning.{IsPlanOf}
use Rattle.ledger_runs.proofs.openings.plan_lanes.Given as goal

abbrev pub invariant-loop-one : goal.invariant-loop-one
invariant-loop-one l = record {
  each : AllZip (IsPlanOf l.shape) (take l.one-index l.found) l.plans.items;
  len : vec_len l.plans ≡ l.one-index;
  room : vec_capacity l.plans ≡ length l.found;
}
