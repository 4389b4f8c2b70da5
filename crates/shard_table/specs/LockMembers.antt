-- What locks are seen as.
use Rattle.std.specs.Prelude.{ℕ, List}
use Rattle.base_types.specs.declared.ids.BatchId.{BatchId}
use Rattle.shard_table.specs.declared.slots.Kept.{Kept}

-- the locked hashes, each with the batch that holds it and the place of its entry, and how many more there is room for
pub record LocksOf : Type 0 where
  pub held : List (Kept (BatchId × ℕ))
  pub spare : ℕ
