use Rattle.std.proofs.Common.{◌≡◌, ◌≤◌, []}
use Rattle.std.specs.Vec.{vec_capacity, vec_len}
use Rattle.std.specs.List.{All}
use Rattle.lane_driver.proofs.room.decision_rooms.Given as goal

abbrev pub invariant-loop-place : goal.invariant-loop-place
invariant-loop-place l = record {
  rooms : All (λ w. (w.items ≡ []) × (l.size ≤ vec_capacity w)) l.rooms.items;
  len : vec_len l.rooms ≡ l._place;
  capacity : vec_capacity l.rooms ≡ l.count;
}
