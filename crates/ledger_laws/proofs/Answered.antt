-- The answers to a call whose cause stands, case by case.
use Rattle.std.specs.Prelude.{◌≡◌, ◌⊎◌, ℕ, ◌<◌, Bool, List}
use Rattle.cbdc_model.specs.Records.{Batch, Entry, Record, record_of, decisions_in, lock_of}
use Rattle.cbdc_model.specs.Slots.{slot, slot_stamp, Idle, InLock, InFinish}
use Rattle.cbdc_model.specs.Replies.{entries}
use Rattle.cbdc_model.specs.After.{FitsReplies}

-- the call's number is behind the lane's, or that batch is forgotten
abbrev pub IsStale : List Record → Batch → Type 0
IsStale J b = (b.number < (slot J b.lane).number) ⊎ (((slot J b.lane).number ≡ b.number) × ((slot J b.lane).phase ≡ Idle))

-- a lock of this part is answered by a record, by what was replied, or as stale
pub data LockAnswered (J : List Record) (b : Batch) (p : List Entry) (cause : ℕ) : Type 0 where
  lock_stale : IsStale J b → LockAnswered J b p cause
  lock_stored : (slot J b.lane).number ≡ b.number → entries (lock_of J b) ≡ p → LockAnswered J b p cause
  lock_appends : (slot J b.lane).number < b.number → (slot J b.lane).phase ≡ Idle → slot_stamp J b.lane < cause → LockAnswered J b p cause

pub data FinishAnswered (J : List Record) (b : Batch) (ds : List Bool) (cause : ℕ) : Type 0 where
  finish_stale : IsStale J b → FinishAnswered J b ds cause
  finish_stored : (slot J b.lane).number ≡ b.number → (slot J b.lane).phase ≡ InFinish → decisions_in (record_of 3 J b) ≡ ds
      → FinishAnswered J b ds cause
  finish_appends : (slot J b.lane).number ≡ b.number → (slot J b.lane).phase ≡ InLock → FitsReplies (lock_of J b) ds → slot_stamp J b.lane < cause
      → FinishAnswered J b ds cause

pub data ForgetAnswered (J : List Record) (b : Batch) (cause : ℕ) : Type 0 where
  forget_stale : b.number < (slot J b.lane).number → ForgetAnswered J b cause
  forget_stored : (slot J b.lane).number ≡ b.number → (slot J b.lane).phase ≡ Idle → ForgetAnswered J b cause
  forget_appends : (slot J b.lane).number ≡ b.number → (slot J b.lane).phase ≡ InFinish → slot_stamp J b.lane < cause → ForgetAnswered J b cause
