use Rattle.std.proofs.Common.{◌≡◌}
use Rattle.std.specs.Vec.{vec_capacity, vec_len}
use Rattle.std.specs.List.{All}
use Rattle.lane_waves.specs.Deals.{IsEmptyRoom}
use Rattle.lane_waves.proofs.dealing.port_rooms.Given as goal

abbrev pub invariant-loop-place : goal.invariant-loop-place
invariant-loop-place g l = record {
  rooms : All (IsEmptyRoom l.shards) l.rooms.items;
  len : vec_len l.rooms ≡ l._place;
  capacity : vec_capacity l.rooms ≡ l.lanes;
}
