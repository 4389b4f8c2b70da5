-- What a Finish is answered, by the lane's slot.
use Rattle.std.proofs.Common.{◌≡◌, ◌≢◌, ℕ, ◌<◌, ◌≤◌, List, Bool, Some, None, inl, inr, arith, ap, sym, ◌∙◌}
use Rattle.std.proofs.lemmas.Bool.{cases_order}
use Rattle.std.proofs.lemmas.Grind.{common_steps}
use Rattle.cbdc_types.specs.declared.calls.Refused.{Refused}
use Rattle.cbdc_types.specs.declared.calls.Refused.TheVariants.{Stale, NotLocked, OtherOutcome, EarlyStamp}
use Rattle.cbdc_model.specs.Records.{Batch, Record, Entry, Reply, lock_of, record_of, decisions_in, stamp_in}
use Rattle.cbdc_model.specs.Slots.{Phase, slot, Idle, InLock, InFinish}
use Rattle.cbdc_model.specs.Replies.{replies}
use Rattle.cbdc_model.specs.Next.{next_finish, next_stamp, misfit, difference, same_decision, Plan, Kept, Append, Refuse}
use Rattle.shard_core.specs.declared.slots.LaneSlot.{LaneSlot}
use Rattle.shard_core.specs.declared.slots.LaneSlot.TheVariants.{Idle as Free, Locked as Taken, Finished}
use Rattle.shard_core.specs.Slots.{SlotStands, slot_number, batch_numbered}
use Rattle.shard_core.specs.Places.{first_misfit, fits_reply}
use Rattle.shard_core.proofs.Places.{misfit_is, difference_is}

pub the_batch : (b : Batch) (n : ℕ) → b.number ≡ n → batch_numbered b.lane n ≡ b
the_batch b n e = ap (λ (m : ℕ). batch_numbered b.lane m) (sym e)

-- a slot stands for its number, in some phase
pub stands_at : (s : LaneSlot) (n : ℕ) (J : List Record) (lane : ℕ) → n ≡ slot_number s → SlotStands s J lane
    → (p : Phase) × (slot J lane ≡ record { number = n; phase = p })
stands_at (Free m t) n J lane e h = (Idle, rw e h.0)
stands_at (Taken m part rs t) n J lane e h = (InLock, rw e h.0)
stands_at (Finished m part rs ds t u) n J lane e h = (InFinish, rw e h.0)

-- a number that is less is stale, and one that is greater not locked
pub other_refused : (plan : Plan ℕ) (n m : ℕ) (why : Refused) → m ≢ n → (m < n → why ≡ Stale n) → (n < m → why ≡ NotLocked n)
    → (m < n → plan ≡ Refuse (Stale n)) → (n < m → plan ≡ Refuse (NotLocked n)) → Refuse why ≡ plan
other_refused plan n m why ne stale ahead less more =
    elim (cases_order m n) [
      | inl e ↦ absurd (ne e)
      | inr differ ↦ elim differ [
        | inl lt ↦ ap Refuse (stale lt) ∙ sym (less lt)
        | inr lt ↦ ap Refuse (ahead lt) ∙ sym (more lt)
      ]
    ]

finish_stale : (J : List Record) (b : Batch) (ds : List Bool) (cause n : ℕ) (p : Phase) → slot J b.lane ≡ record { number = n; phase = p }
    → b.number < n
    → next_finish J b ds cause ≡ Refuse (Stale n)
finish_stale J b ds cause n p e h = grind (arith, common_steps)

pub finish_idle : (J : List Record) (b : Batch) (ds : List Bool) (cause n : ℕ) → slot J b.lane ≡ record { number = n; phase = Idle } → b.number ≡ n
    → next_finish J b ds cause ≡ Refuse (Stale n)
finish_idle J b ds cause n e h = grind (arith, common_steps)

finish_ahead : (J : List Record) (b : Batch) (ds : List Bool) (cause n : ℕ) (p : Phase) → slot J b.lane ≡ record { number = n; phase = p }
    → n < b.number
    → next_finish J b ds cause ≡ Refuse (NotLocked n)
finish_ahead J b ds cause n p e h = grind (arith, common_steps)

pub finish_elsewhere : (J : List Record) (b : Batch) (ds : List Bool) (cause : ℕ) (s : LaneSlot) (n : ℕ) (why : Refused) → SlotStands s J b.lane
    → n ≡ slot_number s → b.number ≢ n
    → (b.number < n → why ≡ Stale n) → (n < b.number → why ≡ NotLocked n) → Refuse why ≡ next_finish J b ds cause
finish_elsewhere J b ds cause s n why h e ne stale ahead =
    let at = stands_at s n J b.lane e h in
    other_refused (next_finish J b ds cause) n b.number why ne stale ahead (λ lt. finish_stale J b ds cause n at.0 at.1 lt)
    (λ lt. finish_ahead J b ds cause n at.0 at.1 lt)

unfit_at : (J : List Record) (b : Batch) (ds : List Bool) (rs : List Reply) → replies (lock_of J b) ≡ rs
    → misfit (lock_of J b) ds ≡ first_misfit fits_reply rs ds
unfit_at J b ds rs r = misfit_is (lock_of J b) ds ∙ ap (λ xs. first_misfit fits_reply xs ds) r

pub finish_misfit : (J : List Record) (b : Batch) (ds : List Bool) (cause : ℕ) (part : List Entry) (rs : List Reply) (t at : ℕ)
    → SlotStands (Taken b.number part rs t) J b.lane
    → Some at ≡ first_misfit fits_reply rs ds → next_finish J b ds cause ≡ Refuse (OtherOutcome at)
finish_misfit J b ds cause part rs t at s f =
    let m : misfit (lock_of J b) ds ≡ Some at = unfit_at J b ds rs s.3 ∙ sym f in
    let e = s.0 in
    grind (arith, common_steps)

pub finish_early : (J : List Record) (b : Batch) (ds : List Bool) (cause : ℕ) (part : List Entry) (rs : List Reply) (t : ℕ)
    → SlotStands (Taken b.number part rs t) J b.lane
    → None ≡ first_misfit fits_reply rs ds → cause ≤ t → next_finish J b ds cause ≡ Refuse (EarlyStamp t)
finish_early J b ds cause part rs t s f l =
    let m : misfit (lock_of J b) ds ≡ None = unfit_at J b ds rs s.3 ∙ sym f in
    let e = s.0 in
    let u = s.1 in
    grind (arith, common_steps)

pub finish_next : (J : List Record) (b : Batch) (ds : List Bool) (cause : ℕ) (part : List Entry) (rs : List Reply) (t : ℕ)
    → SlotStands (Taken b.number part rs t) J b.lane
    → None ≡ first_misfit fits_reply rs ds → t < cause → next_finish J b ds cause ≡ Append (next_stamp J cause)
finish_next J b ds cause part rs t s f l =
    let m : misfit (lock_of J b) ds ≡ None = unfit_at J b ds rs s.3 ∙ sym f in
    let e = s.0 in
    let u = s.1 in
    grind (arith, common_steps)

other_at : (J : List Record) (b : Batch) (ds kept : List Bool) → decisions_in (record_of 3 J b) ≡ kept
    → difference same_decision (decisions_in (record_of 3 J b)) ds ≡ first_misfit same_decision kept ds
other_at J b ds kept r = difference_is same_decision (decisions_in (record_of 3 J b)) ds ∙ ap (λ xs. first_misfit same_decision xs ds) r

pub finish_other : (J : List Record) (b : Batch) (ds : List Bool) (cause : ℕ) (part : List Entry) (rs : List Reply) (kept : List Bool) (t u at : ℕ)
    → SlotStands (Finished b.number part rs kept t u) J b.lane → Some at ≡ first_misfit same_decision kept ds
    → next_finish J b ds cause ≡ Refuse (OtherOutcome at)
finish_other J b ds cause part rs kept t u at s f =
    let m : difference same_decision (decisions_in (record_of 3 J b)) ds ≡ Some at = other_at J b ds kept s.5 ∙ sym f in
    let e = s.0 in
    grind (arith, common_steps)

pub finish_kept : (J : List Record) (b : Batch) (ds : List Bool) (cause : ℕ) (part : List Entry) (rs : List Reply) (kept : List Bool) (t u : ℕ)
    → SlotStands (Finished b.number part rs kept t u) J b.lane → None ≡ first_misfit same_decision kept ds → next_finish J b ds cause ≡ Kept u
finish_kept J b ds cause part rs kept t u s f =
    let m : difference same_decision (decisions_in (record_of 3 J b)) ds ≡ None = other_at J b ds kept s.5 ∙ sym f in
    let e = s.0 in
    let at : stamp_in (record_of 3 J b) ≡ u = s.6 in
    grind (arith, common_steps)
