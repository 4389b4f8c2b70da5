use Rattle.std.proofs.Common.{◌≡◌, ◌≤◌, ◌*◌, take}
use Rattle.coord_core.specs.Lanes.{kept_of}
use Rattle.coord_core.proofs.coord.CoordCore.kept_room.Given as goal

abbrev pub invariant-loop-lane : goal.invariant-loop-lane
invariant-loop-lane l = record {
  kept : l.kept ≡ kept_of (take l.lane-index l.lane-items);
  bound : l.kept ≤ 58478 * l.lane-index;
}
