use Rattle.std.proofs.Common.{◌≡◌}
use Rattle.std.specs.Vec.{vec_capacity, vec_len}
use Rattle.lane_waves.specs.Places.{AllFrom}
use Rattle.lane_waves.specs.Rows.{IsShardRow}
use Rattle.lane_waves.proofs.rows.shard_rows.Given as goal

abbrev pub invariant-loop-shard : goal.invariant-loop-shard
invariant-loop-shard l = record {
  rows : AllFrom (IsShardRow l.shape) 0 l.rows.items;
  len : vec_len l.rows ≡ l._shard;
  capacity : vec_capacity l.rows ≡ l.count;
}
