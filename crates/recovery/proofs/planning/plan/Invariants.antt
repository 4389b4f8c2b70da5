use Rattle.std.proofs.Common.{◌≡◌, length, take}
use Rattle.std.specs.Vec.{vec_capacity, vec_len}
use Rattle.std.specs.List.{AllZip}
use Rattle.recovery.specs.Planned.{IsRoomToResume}
use Rattle.recovery.proofs.planning.plan.Given as goal

abbrev pub invariant-loop-unfinished : goal.invariant-loop-unfinished
invariant-loop-unfinished l = record {
  each : AllZip (IsRoomToResume l.shape) (take l.unfinished-index l.lanes) l.rooms.items;
  len : vec_len l.rooms ≡ l.unfinished-index;
  room : vec_capacity l.rooms ≡ length l.lanes;
}
