use Rattle.std.proofs.Common.{◌≡◌, map}
use Rattle.std.specs.Vec.{vec_capacity}
use Rattle.lane_driver.specs.Calls.{lock_call_of}
use Rattle.lane_driver.proofs.order.lock_calls.Given as goal

abbrev pub invariant-loop-shard : goal.invariant-loop-shard
invariant-loop-shard l = record {
  made : l.out.items ≡ map (lock_call_of l.batch l.cause) l.yielded;
  room : vec_capacity l.out ≡ vec_capacity l.initial.out;
}
