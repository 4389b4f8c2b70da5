-- What is answered to a Lock, before any memory is taken.
use Rattle.std.specs.Prelude.{◌≡◌, ℕ, Bool, List, [], length}
use Rattle.cbdc_model.specs.Records.{Batch, Record, Entry, record_of, lock_of, stamp_in, lock_kind}
use Rattle.cbdc_model.specs.Replies.{answered, replies}
use Rattle.cbdc_model.specs.Next.{RepliesAt, next_lock, next_stamp, Kept, Append, Refuse}
use Rattle.shard_core.specs.declared.slots.LaneSlot.{LaneSlot}
use Rattle.shard_core.specs.declared.slots.LaneSlot.TheVariants.{Idle as Free, Locked as Taken, Finished}
use Rattle.shard_core.specs.declared.plans.StampPlan.{StampPlan}
use Rattle.shard_core.specs.declared.plans.StampPlan.TheVariants.{Kept as StampKept, Append as StampNext, Refused as StampRefused}
use Rattle.shard_core.specs.declared.judging.LockAnswer.{LockAnswer}
use Rattle.shard_core.specs.declared.judging.LockAnswer.TheVariants.{Refused, Again, Next}

-- what the journal keeps of a batch's Lock
abbrev pub kept_at : List Record → Batch → RepliesAt
kept_at J b = record { given = replies (lock_of J b); at = stamp_in (record_of lock_kind J b) }

-- the answer to a Lock, before any memory is taken, is the definitions'
abbrev pub IsLockJudged : LockAnswer → List Record → Batch → List Entry → ℕ → Type 0
IsLockJudged (Refused why) J b part cause = next_lock J b part cause ≡ Refuse why
IsLockJudged Again J b part cause = next_lock J b part cause ≡ Kept (kept_at J b)
IsLockJudged Next J b part cause =
    next_lock J b part cause ≡ Append (record { given = replies (answered J b [] part); at = next_stamp J cause })

-- the slot remembers the batch with this number
abbrev pub SlotRemembers : LaneSlot → ℕ → Type 0
SlotRemembers (Free n t) m = ⊥
SlotRemembers (Taken n part rs t) m = m ≡ n
SlotRemembers (Finished n part rs ds t u) m = m ≡ n

-- where the answer is a kept one, the slot remembers the batch
abbrev pub RemembersAgain : LockAnswer → LaneSlot → ℕ → Type 0
RemembersAgain (Refused why) s m = Unit {0}
RemembersAgain Again s m = SlotRemembers s m
RemembersAgain Next s m = Unit {0}

-- no batch of the lane is remembered
abbrev pub IsSlotFree : LaneSlot → Type 0
IsSlotFree (Free n t) = Unit {0}
IsSlotFree (Taken n part rs t) = ⊥
IsSlotFree (Finished n part rs ds t u) = ⊥

-- no hash is still to come of the lane's batch: there is none, or it is finished
abbrev pub IsSlotPast : LaneSlot → Type 0
IsSlotPast (Free n t) = Unit {0}
IsSlotPast (Taken n part rs t) = ⊥
IsSlotPast (Finished n part rs ds t u) = Unit {0}

-- the slot has this batch locked, with so many replies
abbrev pub IsSlotLocked : LaneSlot → ℕ → List Bool → Type 0
IsSlotLocked (Free n t) m given = ⊥
IsSlotLocked (Taken n part rs t) m given = (n ≡ m) × (length given ≡ length rs)
IsSlotLocked (Finished n part rs ds t u) m given = ⊥

-- where a Lock is to be appended, no batch of the lane is remembered
abbrev pub FitsLock : LockAnswer → LaneSlot → Type 0
FitsLock (Refused why) s = Unit {0}
FitsLock Again s = Unit {0}
FitsLock Next s = IsSlotFree s

-- where a Finish is to be appended, the slot has its batch locked, with as many replies as there are decisions
abbrev pub FitsFinish : StampPlan → LaneSlot → ℕ → List Bool → Type 0
FitsFinish (StampKept stamp) s m ds = Unit {0}
FitsFinish (StampNext stamp) s m ds = IsSlotLocked s m ds
FitsFinish (StampRefused why) s m ds = Unit {0}

-- where a Forget is to be appended, the lane's batch is not locked any more
abbrev pub FitsForget : StampPlan → LaneSlot → Type 0
FitsForget (StampKept stamp) s = Unit {0}
FitsForget (StampNext stamp) s = IsSlotPast s
FitsForget (StampRefused why) s = Unit {0}
