-- What a shard answers, new or kept: stamps within their bound, and hashes and batches of its shape.
use Rattle.std.proofs.Common.{◌≡◌, inl, inr, ℕ, ◌+◌, ◌^◌, ◌≤◌, true, false, ◌&&◌, ◌==◌, List, ◌∷◌, Result, Ok, Err, refl, sym, ap, ◌∙◌, subst, arith}
use Rattle.std.specs.List.{All}
use Rattle.std.specs.Result.{IfOk}
use Rattle.cbdc_types.specs.declared.calls.LockCall.{LockCall}
use Rattle.cbdc_types.specs.declared.calls.FinishCall.{FinishCall}
use Rattle.cbdc_types.specs.declared.calls.ForgetCall.{ForgetCall}
use Rattle.cbdc_types.specs.declared.calls.Replied.{Replied}
use Rattle.cbdc_types.specs.declared.calls.NodeFault.{NodeFault}
use Rattle.cbdc_model.specs.Records.{Header, Shape, Record, kind_of, is_of, tells_lane, record_of, stamp_in, Finish, Forget}
use Rattle.cbdc_model.specs.Slots.{slot_stamp}
use Rattle.cbdc_model.specs.Grammar.{IsReply}
use Rattle.cbdc_model.specs.Next.{next_lock, next_finish, next_forget, next_stamp}
use Rattle.cbdc_model.specs.Due.{Due, lock_by, lock_record, lock_due, stamp_by, finish_due, forget_due, replied_of}
use Rattle.cbdc_model.specs.After.{IsJournal}
use Rattle.cbdc_model.specs.Sights.{Sight, Told}
use Rattle.lane_laws.proofs.Dues.{lock_wrote, lock_kept, lock_new, lock_stored, stamp_wrote, stamp_kept, finish_new, finish_stored, forget_new}
use Rattle.lane_laws.proofs.Dues.{forget_stored}
use Rattle.lane_laws.proofs.Tellings.{Wrote, Stood, told_ok}
use Rattle.lane_driver.specs.Told.{IsStamp}
use Rattle.node_ports.proofs.Stamps.{newest_after, entries_reply, last_within, found_within, locks_reply}

small : (t stamp : ℕ) → t ≡ stamp → stamp ≤ 2 ^ 62 + 2 ^ 20 → IsStamp t
small t stamp e le = omega arith

-- ---- Lock

abbrev IsGood : Header → Replied → Type 0
IsGood h a = IsStamp a.stamp × All (IsReply h.shape) a.replies

module _ (c : LockCall) (K : Shape) (capacity : ℕ) (old new : Sight) (journal : IsJournal new.header new.seen) where
  abbrev by_lock : List Record → Due Replied
  by_lock J = lock_by (next_lock J c.batch c.part c.cause) K capacity J c

  kept_lock : (a : Replied) → Stood true c.batch.lane by_lock old new a → IsGood new.header a
  kept_lock a s =
      let j : IsJournal new.header s.found = subst (λ x. IsJournal new.header x) s.seen journal in
      let kept = lock_kept K capacity s.found c (next_lock s.found c.batch c.part c.cause) a s.answers in
      let is = lock_stored s.found c.batch c.part c.cause kept.0 kept.1 in
      subst (λ a. IsGood new.header a) (sym (kept.2 ∙ ap replied_of is.3)) (
        small (stamp_in (record_of 2 s.found c.batch)) (stamp_in (record_of 2 s.found c.batch)) refl
            (found_within new.header (λ r. (kind_of r == 2) && is_of c.batch r) s.found j),
        locks_reply new.header c.batch s.found j,
      )

  new_lock : (a : Replied) → Wrote true c.batch.lane by_lock old new a → IsGood new.header a
  new_lock a w =
      let wrote = lock_wrote K capacity w.found c (next_lock w.found c.batch c.part c.cause) a w.what w.writes in
      let is = lock_new w.found c.batch c.part c.cause wrote.0 wrote.1 in
      let j : IsJournal new.header (lock_record w.found c ∷ w.found) =
      subst (λ r. IsJournal new.header (r ∷ w.found)) wrote.3 (subst (λ x. IsJournal new.header x) w.seen journal) in
      subst (λ a. IsGood new.header a) (sym (wrote.2 ∙ ap replied_of is.1)) (
        small (next_stamp w.found c.cause) (next_stamp w.found c.cause) refl (last_within new.header (lock_record w.found c ∷ w.found) j),
        entries_reply new.header (lock_record w.found c) (newest_after new.header (lock_record w.found c) w.found j).0,
      )

pub lock_replies : (c : LockCall) (old new : Sight) (result : Result Replied NodeFault)
    → Told true c.batch.lane true (lock_due old.header.shape old.capacity c) old new result
    → IsJournal new.header new.seen → new.header ≡ old.header → IfOk result (λ a. IsStamp a.stamp × All (IsReply old.header.shape) a.replies)
lock_replies c old new (Err f) told journal same = tt
lock_replies c old new (Ok a) told journal same =
    subst (λ h. IsGood h a) same (elim (told_ok true c.batch.lane true (by_lock c old.header.shape old.capacity old new journal) old new a told) [
      | inl stood ↦ kept_lock c old.header.shape old.capacity old new journal a stood
      | inr wrote ↦ new_lock c old.header.shape old.capacity old new journal a wrote
    ])

-- ---- Finish and Forget

module _ (c : FinishCall) (old new : Sight) (journal : IsJournal new.header new.seen) where
  abbrev finish_record : List Record → Record
  finish_record J = Finish (next_stamp J c.cause) c.batch c.decisions

  abbrev by_finish : List Record → Due ℕ
  by_finish J = stamp_by (next_finish J c.batch c.decisions c.cause) (finish_record J)

  kept_finish : (t : ℕ) → Stood true c.batch.lane by_finish old new t → IsStamp t
  kept_finish t s =
      let j : IsJournal new.header s.found = subst (λ x. IsJournal new.header x) s.seen journal in
      let kept = stamp_kept (next_finish s.found c.batch c.decisions c.cause) (finish_record s.found) t s.answers in
      small t (stamp_in (record_of 3 s.found c.batch)) (finish_stored s.found c.batch c.decisions c.cause t kept).stamp
      (found_within new.header (λ r. (kind_of r == 3) && is_of c.batch r) s.found j)

  new_finish : (t : ℕ) → Wrote true c.batch.lane by_finish old new t → IsStamp t
  new_finish t w =
      let wrote = stamp_wrote (next_finish w.found c.batch c.decisions c.cause) (finish_record w.found) t w.what w.writes in
      let is = finish_new w.found c.batch c.decisions c.cause t wrote.0 in
      let j : IsJournal new.header (finish_record w.found ∷ w.found) =
      subst (λ r. IsJournal new.header (r ∷ w.found)) wrote.1 (subst (λ x. IsJournal new.header x) w.seen journal) in
      small t (next_stamp w.found c.cause) is.1 (last_within new.header (finish_record w.found ∷ w.found) j)

pub finish_stamp : (c : FinishCall) (old new : Sight) (result : Result ℕ NodeFault) → Told true c.batch.lane false (finish_due c) old new result
    → IsJournal new.header new.seen → IfOk result IsStamp
finish_stamp c old new (Err f) told journal = tt
finish_stamp c old new (Ok t) told journal = elim (told_ok true c.batch.lane false (by_finish c old new journal) old new t told) [
  | inl stood ↦ kept_finish c old new journal t stood
  | inr wrote ↦ new_finish c old new journal t wrote
]

module _ (c : ForgetCall) (old new : Sight) (journal : IsJournal new.header new.seen) where
  abbrev forget_record : List Record → Record
  forget_record J = Forget (next_stamp J c.cause) c.batch

  abbrev by_forget : List Record → Due ℕ
  by_forget J = stamp_by (next_forget J c.batch c.cause) (forget_record J)

  kept_forget : (t : ℕ) → Stood true c.batch.lane by_forget old new t → IsStamp t
  kept_forget t s =
      let j : IsJournal new.header s.found = subst (λ x. IsJournal new.header x) s.seen journal in
      let kept = stamp_kept (next_forget s.found c.batch c.cause) (forget_record s.found) t s.answers in
      small t (slot_stamp s.found c.batch.lane) (forget_stored s.found c.batch c.cause t kept).stamp
      (found_within new.header (λ r. tells_lane c.batch.lane r) s.found j)

  new_forget : (t : ℕ) → Wrote true c.batch.lane by_forget old new t → IsStamp t
  new_forget t w =
      let wrote = stamp_wrote (next_forget w.found c.batch c.cause) (forget_record w.found) t w.what w.writes in
      let is = forget_new w.found c.batch c.cause t wrote.0 in
      let j : IsJournal new.header (forget_record w.found ∷ w.found) =
      subst (λ r. IsJournal new.header (r ∷ w.found)) wrote.1 (subst (λ x. IsJournal new.header x) w.seen journal) in
      small t (next_stamp w.found c.cause) is.1 (last_within new.header (forget_record w.found ∷ w.found) j)

pub forget_stamp : (c : ForgetCall) (old new : Sight) (result : Result ℕ NodeFault) → Told true c.batch.lane false (forget_due c) old new result
    → IsJournal new.header new.seen → IfOk result IsStamp
forget_stamp c old new (Err f) told journal = tt
forget_stamp c old new (Ok t) told journal = elim (told_ok true c.batch.lane false (by_forget c old new journal) old new t told) [
  | inl stood ↦ kept_forget c old new journal t stood
  | inr wrote ↦ new_forget c old new journal t wrote
]
