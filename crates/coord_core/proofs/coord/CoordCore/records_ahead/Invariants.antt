use Rattle.std.proofs.Common.{◌≡◌, ◌≤◌, ◌*◌, take}
use Rattle.coord_core.specs.Lanes.{ahead_of}
use Rattle.coord_core.proofs.coord.CoordCore.records_ahead.Given as goal

abbrev pub invariant-loop-lane : goal.invariant-loop-lane
invariant-loop-lane l = record {
  ahead : l.ahead ≡ ahead_of (take l.lane-index l.lane-items);
  bound : l.ahead ≤ 3 * l.lane-index;
}
