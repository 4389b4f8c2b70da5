use Rattle.std.proofs.Common.{◌≡◌, take}
use Rattle.std.specs.Vec.{vec_capacity}
use Rattle.cbdc_model.specs.Outcomes.{decisions}
use Rattle.lane_driver.proofs.order.decisions_of.Given as goal

abbrev pub invariant-loop-entry : goal.invariant-loop-entry
invariant-loop-entry l = record {
  made : l.out.items ≡ decisions l.outcomes (take l.entry-index l.part);
  room : vec_capacity l.out ≡ vec_capacity l.initial.out;
}
