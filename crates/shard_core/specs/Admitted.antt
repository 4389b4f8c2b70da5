-- The condition of taking a record in.
use Rattle.std.specs.Prelude.{◌≡◌, ℕ, ◌*◌, ◌<◌, ◌^◌, Bool, List, length, Some, slice_get}
use Rattle.cbdc_model.specs.Records.{Batch, Entry, Reply, Record, Lock, Finish, Forget}
use Rattle.cbdc_model.specs.Replies.{entries, replies}
use Rattle.shard_core.specs.declared.slots.LaneSlot.TheVariants.{Locked as Taken}
use Rattle.shard_core.specs.declared.core_state.ShardCore.{ShardCore}
use Rattle.shard_core.specs.Stands.{IsLockReady, IsLaneFree, IsLanePast}

-- the batch is of a lane here, and the stamp is below 2^63
abbrev pub IsOfShardLane : ShardCore → Batch → ℕ → Type 0
IsOfShardLane core b stamp = (b.lane < core.header.shape.coordinators * core.header.shape.lanes) × (stamp < 2 ^ 63)

-- the batch is locked here, with as many entries as there are decisions
pub record IsFinishable (core : ShardCore) (b : Batch) (ds : List Bool) : Type 0 where
  pub part : List Entry
  pub rs : List Reply
  pub at : ℕ
  pub slot : slice_get core.slots b.lane ≡ Some (Taken b.number part rs at)
  pub replies : length rs ≡ length part
  pub decisions : length ds ≡ length part

-- the shard can take this Lock in: the lane is free, and the memory is there
abbrev pub IsLockAdmitted : ShardCore → Record → Type 0
IsLockAdmitted core (Lock stamp b es) = IsOfShardLane core b stamp × IsLaneFree core b.lane × IsLockReady core (entries es) (replies es)
IsLockAdmitted core other = ⊥

-- the shard can take this Finish in: its batch is locked, with as many entries
abbrev pub IsFinishAdmitted : ShardCore → Record → Type 0
IsFinishAdmitted core (Finish stamp b ds) = IsOfShardLane core b stamp × IsFinishable core b ds
IsFinishAdmitted core other = ⊥

-- the shard can take this Forget in: its batch is not locked any more
abbrev pub IsForgetAdmitted : ShardCore → Record → Type 0
IsForgetAdmitted core (Forget stamp b) = IsOfShardLane core b stamp × IsLanePast core b.lane
IsForgetAdmitted core other = ⊥

-- the shard can take this record in
abbrev pub ShardAdmits : ShardCore → Record → Type 0
ShardAdmits core (Lock stamp b es) = IsLockAdmitted core (Lock stamp b es)
ShardAdmits core (Finish stamp b ds) = IsFinishAdmitted core (Finish stamp b ds)
ShardAdmits core (Forget stamp b) = IsForgetAdmitted core (Forget stamp b)
ShardAdmits core other = ⊥
