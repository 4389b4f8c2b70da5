use Rattle.std.proofs.Common.{◌≡◌, map, take}
use Rattle.std.specs.Vec.{vec_capacity}
use Rattle.lane_driver.specs.Calls.{forget_call_of}
use Rattle.lane_driver.proofs.order.forget_calls.Given as goal

abbrev pub invariant-loop-lock : goal.invariant-loop-lock
invariant-loop-lock l = record {
  made : l.out.items ≡ map (forget_call_of l.batch l.cause) (take l.lock-index l.locks);
  room : vec_capacity l.out ≡ vec_capacity l.initial.out;
}
