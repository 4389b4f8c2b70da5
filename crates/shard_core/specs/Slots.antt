-- What a lane's slot stands for.
use Rattle.std.specs.Prelude.{◌≡◌, ℕ, List}
use Rattle.cbdc_model.specs.Records.{Batch, Record, record_of, lock_of, decisions_in, stamp_in, lock_kind, finish_kind}
use Rattle.cbdc_model.specs.Slots.{slot, slot_stamp, Idle, InLock, InFinish}
use Rattle.cbdc_model.specs.Replies.{entries, replies}
use Rattle.shard_core.specs.declared.slots.LaneSlot.{LaneSlot}
use Rattle.shard_core.specs.declared.slots.LaneSlot.TheVariants.{Idle as Free, Locked as Taken, Finished}

-- the batch of this lane with this number
abbrev pub batch_numbered : ℕ → ℕ → Batch
batch_numbered lane n = record { lane = lane; number = n }

-- the slot has what the journal says of the lane
abbrev pub SlotStands : LaneSlot → List Record → ℕ → Type 0
SlotStands (Free n t) J lane = (slot J lane ≡ record { number = n; phase = Idle }) × (slot_stamp J lane ≡ t)
SlotStands (Taken n part rs t) J lane =
    (slot J lane ≡ record { number = n; phase = InLock }) × (slot_stamp J lane ≡ t)
    × (entries (lock_of J (batch_numbered lane n)) ≡ part) × (replies (lock_of J (batch_numbered lane n)) ≡ rs)
    × (stamp_in (record_of lock_kind J (batch_numbered lane n)) ≡ t)
SlotStands (Finished n part rs ds t u) J lane =
    (slot J lane ≡ record { number = n; phase = InFinish }) × (slot_stamp J lane ≡ u)
    × (entries (lock_of J (batch_numbered lane n)) ≡ part) × (replies (lock_of J (batch_numbered lane n)) ≡ rs)
    × (stamp_in (record_of lock_kind J (batch_numbered lane n)) ≡ t)
    × (decisions_in (record_of finish_kind J (batch_numbered lane n)) ≡ ds) × (stamp_in (record_of finish_kind J (batch_numbered lane n)) ≡ u)

-- a slot's number
abbrev pub slot_number : LaneSlot → ℕ
slot_number (Free n t) = n
slot_number (Taken n part rs t) = n
slot_number (Finished n part rs ds t u) = n
