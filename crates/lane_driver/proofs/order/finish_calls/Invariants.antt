use Rattle.std.proofs.Common.{◌≡◌, ◌+◌, ◌≤◌, [], map, take, length}
use Rattle.std.specs.Vec.{vec_capacity, vec_len}
use Rattle.std.specs.List.{All}
use Rattle.lane_driver.specs.Calls.{finish_call_of}
use Rattle.lane_driver.proofs.order.finish_calls.Given as goal

abbrev pub invariant-loop-lock : goal.invariant-loop-lock
invariant-loop-lock l = record {
  made : l.out.items ≡ map (finish_call_of l.batch l.cause l.outcomes) (take l.lock-index l.locks);
  room : vec_capacity l.out ≡ vec_capacity l.initial.out;
  rooms : All (λ v. (v.items ≡ []) × (length l.outcomes ≤ vec_capacity v)) l.rooms.items;
  as_many : length l.locks ≤ vec_len l.rooms + l.lock-index;
}
