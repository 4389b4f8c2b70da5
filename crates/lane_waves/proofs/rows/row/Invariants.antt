use Rattle.std.proofs.Common.{◌≡◌}
use Rattle.std.specs.Vec.{vec_capacity, vec_len}
use Rattle.lane_waves.specs.Rows.{lanes_from}
use Rattle.lane_waves.proofs.rows.row.Given as goal

abbrev pub invariant-loop-place : goal.invariant-loop-place
invariant-loop-place l = record {
  items : l.lanes.items ≡ lanes_from l.first l.place;
  len : vec_len l.lanes ≡ l.place;
  capacity : vec_capacity l.lanes ≡ l.count;
}
