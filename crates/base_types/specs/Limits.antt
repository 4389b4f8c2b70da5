-- How large a ledger may be.
use Rattle.std.specs.Prelude.{ℕ, ◌≤◌}

-- how many shards and coordinators, how many lanes a coordinator has, and how many transactions a batch may have
pub record ShapeOf : Type 0 where
  pub shards : ℕ
  pub coordinators : ℕ
  pub lanes : ℕ
  pub batch : ℕ

-- 1 to 64 shards, 1 to 16 coordinators, 1 to 16 lanes each, batches of 1 to 1,024
pub record IsWithinLimits (s : ShapeOf) : Type 0 where
  pub some_shard : 1 ≤ s.shards
  pub shards : s.shards ≤ 64
  pub some_coordinator : 1 ≤ s.coordinators
  pub coordinators : s.coordinators ≤ 16
  pub some_lane : 1 ≤ s.lanes
  pub lanes : s.lanes ≤ 16
  pub some_batch : 1 ≤ s.batch
  pub batch : s.batch ≤ 1024
