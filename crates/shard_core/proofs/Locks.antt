-- What a Lock is answered, by the lane's slot.
use Rattle.std.proofs.Common.{◌≡◌, ℕ, ◌<◌, ◌≤◌, List, [], false, Some, None, arith, ap, sym, ◌∙◌}
use Rattle.std.proofs.lemmas.Grind.{common_steps}
use Rattle.cbdc_types.specs.declared.calls.Refused.TheVariants.{Stale, LaneOpen, OtherPart, EarlyStamp}
use Rattle.cbdc_model.specs.Records.{Batch, Record, Entry, lock_of}
use Rattle.cbdc_model.specs.Slots.{Phase, slot, slot_stamp, Idle}
use Rattle.cbdc_model.specs.Replies.{replies, entries, answered}
use Rattle.cbdc_model.specs.Next.{next_lock, next_stamp, is_idle, difference, same_entry, Kept, Append, Refuse}
use Rattle.shard_core.specs.Slots.{batch_numbered}
use Rattle.shard_core.specs.Places.{first_misfit}
use Rattle.shard_core.specs.Judged.{kept_at}
use Rattle.shard_core.proofs.Places.{difference_is}
use Rattle.shard_core.proofs.Finishes.{the_batch}

pub lock_stale : (J : List Record) (b : Batch) (part : List Entry) (cause n : ℕ) (p : Phase) → slot J b.lane ≡ record { number = n; phase = p }
    → b.number < n
    → next_lock J b part cause ≡ Refuse (Stale n)
lock_stale J b part cause n p e h = grind (arith, common_steps)

pub lock_idle : (J : List Record) (b : Batch) (part : List Entry) (cause n : ℕ) → slot J b.lane ≡ record { number = n; phase = Idle } → b.number ≡ n
    → next_lock J b part cause ≡ Refuse (Stale n)
lock_idle J b part cause n e h = grind (arith, common_steps)

pub lock_early : (J : List Record) (b : Batch) (part : List Entry) (cause n t : ℕ) → slot J b.lane ≡ record { number = n; phase = Idle }
    → slot_stamp J b.lane ≡ t → n < b.number
    → cause ≤ t → next_lock J b part cause ≡ Refuse (EarlyStamp t)
lock_early J b part cause n t e s h l = grind (arith, common_steps)

pub lock_next : (J : List Record) (b : Batch) (part : List Entry) (cause n t : ℕ) → slot J b.lane ≡ record { number = n; phase = Idle }
    → slot_stamp J b.lane ≡ t → n < b.number
    → t < cause → next_lock J b part cause ≡ Append (record { given = replies (answered J b [] part); at = next_stamp J cause })
lock_next J b part cause n t e s h l = grind (arith, common_steps)

pub lock_open : (J : List Record) (b : Batch) (part : List Entry) (cause n : ℕ) (p : Phase) → slot J b.lane ≡ record { number = n; phase = p }
    → is_idle p ≡ false → n < b.number
    → next_lock J b part cause ≡ Refuse (LaneOpen n)
lock_open J b part cause n p e i h = grind (arith, common_steps)

differs_at : (J : List Record) (b : Batch) (part : List Entry) (n : ℕ) (kept : List Entry) → entries (lock_of J (batch_numbered b.lane n)) ≡ kept
    → b.number ≡ n
    → difference same_entry (entries (lock_of J b)) part ≡ first_misfit same_entry kept part
differs_at J b part n kept r h =
    difference_is same_entry (entries (lock_of J b)) part
    ∙ ap (λ c. first_misfit same_entry (entries (lock_of J c)) part) (sym (the_batch b n h)) ∙ ap (λ xs. first_misfit same_entry xs part) r

pub lock_other : (J : List Record) (b : Batch) (part : List Entry) (cause n : ℕ) (p : Phase) (kept : List Entry) (at : ℕ)
    → slot J b.lane ≡ record { number = n; phase = p }
    → is_idle p ≡ false → entries (lock_of J (batch_numbered b.lane n)) ≡ kept → b.number ≡ n → Some at ≡ first_misfit same_entry kept part
    → next_lock J b part cause ≡ Refuse (OtherPart at)
lock_other J b part cause n p kept at e i r h f =
    let m : difference same_entry (entries (lock_of J b)) part ≡ Some at = differs_at J b part n kept r h ∙ sym f in
    grind (arith, common_steps)

pub lock_again : (J : List Record) (b : Batch) (part : List Entry) (cause n : ℕ) (p : Phase) (kept : List Entry)
    → slot J b.lane ≡ record { number = n; phase = p }
    → is_idle p ≡ false → entries (lock_of J (batch_numbered b.lane n)) ≡ kept → b.number ≡ n → None ≡ first_misfit same_entry kept part
    → next_lock J b part cause ≡ Kept (kept_at J b)
lock_again J b part cause n p kept e i r h f =
    let m : difference same_entry (entries (lock_of J b)) part ≡ None = differs_at J b part n kept r h ∙ sym f in
    grind (arith, common_steps)
