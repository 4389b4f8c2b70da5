use Rattle.std.proofs.Common.{◌≡◌}
use Rattle.std.specs.Vec.{vec_capacity, vec_len}
use Rattle.lane_waves.specs.Places.{AllFrom}
use Rattle.lane_waves.specs.Rows.{IsHomeRow}
use Rattle.lane_waves.proofs.rows.home_rows.Given as goal

abbrev pub invariant-loop-home : goal.invariant-loop-home
invariant-loop-home l = record {
  rows : AllFrom (IsHomeRow l.shape) 0 l.rows.items;
  len : vec_len l.rows ≡ l.home;
  capacity : vec_capacity l.rows ≡ l.count;
}
