-- The journal that a shard stands for.
use Rattle.std.specs.Prelude.{◌≡◌, ℕ, ◌+◌, ◌<◌, ◌≤◌, ◌^◌, List, length, vec_capacity, Option, Some, None, slice_get}
use Rattle.cbdc_model.specs.Records.{Digest, Batch, Record, Entry, Reply, last_stamp}
use Rattle.cbdc_model.specs.Status.{has}
use Rattle.shard_table.specs.Entries.{lookup}
use Rattle.shard_core.specs.declared.slots.LaneSlot.{LaneSlot}
use Rattle.shard_core.specs.declared.core_state.Ready.{Ready}
use Rattle.shard_core.specs.Judged.{IsSlotFree, IsSlotPast}
use Rattle.shard_core.specs.Agrees.{HashesAgree}
use Rattle.shard_core.specs.Moves.{hashes_in}
use Rattle.shard_core.specs.declared.core_state.ShardCore.{ShardCore}
use Rattle.shard_core.specs.declared.plans.LockPlan.{LockPlan}
use Rattle.shard_core.specs.declared.plans.LockPlan.TheVariants.{Kept as LockKept, Append as LockNext, Refused as LockRefused}
use Rattle.shard_core.specs.Slots.{SlotStands}

-- the slots, the last stamp, the unspent hashes and the locked ones are what the journal, the newest record first, says
-- of them
pub record ShardStands (core : ShardCore) (J : List Record) : Type 0 where
  pub lanes : (lane : ℕ) (s : LaneSlot) → slice_get core.slots lane ≡ Some s → SlotStands s J lane
  pub last : core.last ≡ last_stamp J
  pub hashes : HashesAgree core.unspent.hashes core.locks.held J

-- the shard stands for the same journals as before: only room was made
pub record IsSameState (old new : ShardCore) : Type 0 where
  pub header : new.header ≡ old.header
  pub unspent : (x : Digest) → has new.unspent.hashes x ≡ has old.unspent.hashes x
  pub locks : (x : Digest) → lookup new.locks.held x ≡ lookup old.locks.held x
  pub slots : new.slots ≡ old.slots
  pub last : new.last ≡ old.last
  pub owed : new.owed ≡ old.owed

-- the memory for the next Lock holds this part with these replies, and has room for its decisions
abbrev pub IsLockReadyIn : Option Ready → List Entry → List Reply → Type 0
IsLockReadyIn None part rs = ⊥
IsLockReadyIn (Some r) part rs =
    (r.part ≡ part) × (r.replies ≡ rs) × (r.count ≡ hashes_in part) × (length part ≤ vec_capacity r.decisions)

-- the memory for a Lock of this part with these replies, and for its Finish, is there
pub record IsLockReady (core : ShardCore) (part : List Entry) (rs : List Reply) : Type 0 where
  pub kept : IsLockReadyIn core.ready part rs
  pub pairs : length rs ≡ length part
  pub locks : hashes_in part ≤ core.locks.spare
  pub unspent : core.owed + hashes_in part ≤ core.unspent.spare
  pub fits : core.owed + hashes_in part < 2 ^ 62

-- no hash is still to come of the lane's batch in the core
abbrev pub IsLanePast : ShardCore → ℕ → Type 0
IsLanePast core lane = (s : LaneSlot) → slice_get core.slots lane ≡ Some s → IsSlotPast s

-- no batch of the lane is remembered in the core
abbrev pub IsLaneFree : ShardCore → ℕ → Type 0
IsLaneFree core lane = (s : LaneSlot) → slice_get core.slots lane ≡ Some s → IsSlotFree s

-- where a Lock is to be appended, the memory for it is there
abbrev pub IsPlanReady : ShardCore → Batch → List Entry → LockPlan → Type 0
IsPlanReady core b part (LockKept r) = Unit {0}
IsPlanReady core b part (LockNext r) = IsLockReady core part r.replies × IsLaneFree core b.lane
IsPlanReady core b part (LockRefused why) = Unit {0}
