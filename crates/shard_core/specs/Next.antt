-- What it takes to be the next record.
use Rattle.std.specs.Prelude.{◌≡◌, ◌≢◌, ℕ, ◌<◌, List, []}
use Rattle.cbdc_model.specs.Records.{Batch, Record, last_stamp}
use Rattle.cbdc_model.specs.Slots.{slot, Idle}
use Rattle.cbdc_model.specs.Grammar.{IsShard}
use Rattle.shard_core.specs.declared.core_state.ShardCore.{ShardCore}
use Rattle.shard_core.specs.Stands.{ShardStands}

-- the core stands for this journal, which is a shard's and has its first record
pub record IsShardCoreOf (core : ShardCore) (J : List Record) : Type 0 where
  pub stands : ShardStands core J
  pub begun : J ≢ []
  pub shard : IsShard core.header.shape core.header.node

-- a Lock of the batch may have this stamp: the lane is free for it
abbrev pub IsOpenTo : List Record → Batch → ℕ → Type 0
IsOpenTo J b stamp = (last_stamp J < stamp) × ((slot J b.lane).phase ≡ Idle) × ((slot J b.lane).number < b.number)
