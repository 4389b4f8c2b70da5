use Rattle.std.proofs.Common.{◌≡◌, map, take, length, Ok}
use Rattle.std.specs.Vec.{vec_capacity}
use Rattle.lane_driver.specs.Calls.{shard}
use Rattle.lane_driver.specs.Gathering.{gathered_reply}
use Rattle.lane_driver.proofs.answer.gather.Given as goal

abbrev pub invariant-loop-answer : goal.invariant-loop-answer
invariant-loop-answer l = record {
  place : l.place ≡ length l.yielded;
  shards : map (λ r. r.shard) l.replies.items ≡ map shard (take l.place l.calls);
  replies : map (λ r. Ok (gathered_reply r)) l.replies.items ≡ l.yielded;
  room : vec_capacity l.replies ≡ vec_capacity l.initial.replies;
}
