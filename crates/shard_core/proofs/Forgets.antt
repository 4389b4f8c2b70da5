-- What a Forget is answered, by the lane's slot.
use Rattle.std.proofs.Common.{◌≡◌, ◌≢◌, ℕ, ◌<◌, ◌≤◌, List, arith}
use Rattle.std.proofs.lemmas.Grind.{common_steps}
use Rattle.cbdc_types.specs.declared.calls.Refused.{Refused}
use Rattle.cbdc_types.specs.declared.calls.Refused.TheVariants.{Stale, NotLocked, NotFinished, EarlyStamp}
use Rattle.cbdc_model.specs.Records.{Batch, Record}
use Rattle.cbdc_model.specs.Slots.{Phase, slot, slot_stamp, Idle, InLock, InFinish}
use Rattle.cbdc_model.specs.Next.{next_forget, next_stamp, Kept, Append, Refuse}
use Rattle.shard_core.specs.declared.slots.LaneSlot.{LaneSlot}
use Rattle.shard_core.specs.Slots.{SlotStands, slot_number}
use Rattle.shard_core.proofs.Finishes.{stands_at, other_refused}

forget_stale : (J : List Record) (b : Batch) (cause n : ℕ) (p : Phase) → slot J b.lane ≡ record { number = n; phase = p } → b.number < n
    → next_forget J b cause ≡ Refuse (Stale n)
forget_stale J b cause n p e h = grind (arith, common_steps)

forget_ahead : (J : List Record) (b : Batch) (cause n : ℕ) (p : Phase) → slot J b.lane ≡ record { number = n; phase = p } → n < b.number
    → next_forget J b cause ≡ Refuse (NotLocked n)
forget_ahead J b cause n p e h = grind (arith, common_steps)

pub forget_elsewhere : (J : List Record) (b : Batch) (cause : ℕ) (s : LaneSlot) (n : ℕ) (why : Refused) → SlotStands s J b.lane → n ≡ slot_number s
    → b.number ≢ n
    → (b.number < n → why ≡ Stale n) → (n < b.number → why ≡ NotLocked n) → Refuse why ≡ next_forget J b cause
forget_elsewhere J b cause s n why h e ne stale ahead =
    let at = stands_at s n J b.lane e h in
    other_refused (next_forget J b cause) n b.number why ne stale ahead (λ lt. forget_stale J b cause n at.0 at.1 lt)
    (λ lt. forget_ahead J b cause n at.0 at.1 lt)

pub forget_kept : (J : List Record) (b : Batch) (cause n t : ℕ) → slot J b.lane ≡ record { number = n; phase = Idle } → slot_stamp J b.lane ≡ t
    → b.number ≡ n
    → next_forget J b cause ≡ Kept t
forget_kept J b cause n t e s h = grind (arith, common_steps)

pub forget_open : (J : List Record) (b : Batch) (cause n : ℕ) → slot J b.lane ≡ record { number = n; phase = InLock } → b.number ≡ n
    → next_forget J b cause ≡ Refuse (NotFinished n)
forget_open J b cause n e h = grind (arith, common_steps)

pub forget_early : (J : List Record) (b : Batch) (cause n t : ℕ) → slot J b.lane ≡ record { number = n; phase = InFinish } → slot_stamp J b.lane ≡ t
    → b.number ≡ n
    → cause ≤ t → next_forget J b cause ≡ Refuse (EarlyStamp t)
forget_early J b cause n t e s h l = grind (arith, common_steps)

pub forget_next : (J : List Record) (b : Batch) (cause n t : ℕ) → slot J b.lane ≡ record { number = n; phase = InFinish } → slot_stamp J b.lane ≡ t
    → b.number ≡ n
    → t < cause → next_forget J b cause ≡ Append (next_stamp J cause)
forget_next J b cause n t e s h l = grind (arith, common_steps)

pub ruleset forgets = (forget_kept, forget_open, forget_early, forget_next)
