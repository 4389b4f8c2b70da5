-- What a coordinator's calls come to, by what they did on its journal.
use Rattle.std.proofs.Common.{◌≡◌, ◌⊎◌, inl, inr, ℕ, suc, ◌+◌, ◌*◌, ◌^◌, ◌<◌, ◌≤◌, Bool, true, false, List, [], ◌∷◌, Option, Some, None, Result, Ok}
use Rattle.std.proofs.Common.{Err, refl, sym, ap, subst, arith}
use Rattle.std.specs.Result.{IfOk, IfErr, OnOk, OnErr}
use Rattle.cbdc_types.specs.declared.calls.NodeFault.{NodeFault}
use Rattle.cbdc_types.specs.declared.calls.NodeFault.TheVariants.{Broken, Refused as Refuses, ClockEnd, Full, DiskFault, Memory}
use Rattle.cbdc_types.specs.declared.batch.ShardReplies.{ShardReplies}
use Rattle.cbdc_model.specs.Records.{Header, Batch, Compact, Outcome, Record, last_stamp, tells_lane, txs_of, outcomes_of, Commit}
use Rattle.cbdc_model.specs.Slots.{slot, slot_stamp, Idle, InPrepare, InCommit, InDiscard}
use Rattle.cbdc_model.specs.Next.{next_stamp}
use Rattle.cbdc_model.specs.Deciding.{reply_cause}
use Rattle.cbdc_model.specs.Room.{need_of}
use Rattle.cbdc_model.specs.Due.{Due, used_of, last_early, last_late, open_batch, new_batch, prepare_record, prepare_due, decide_due, discard_record}
use Rattle.cbdc_model.specs.Due.{discard_due, done_record, done_due}
use Rattle.cbdc_model.specs.After.{IsJournal}
use Rattle.cbdc_model.specs.Sights.{Sight, IsBrokenSince, MeetsFault, Meets, Told}
use Rattle.lane_laws.specs.Answers.{DecideAnswer}
use Rattle.lane_driver.specs.Told.{IsPreparedBatch, IsStamp, AreReplies}
use Rattle.lane_driver.specs.Causes.{IsDecideCause}
use Rattle.lane_driver.proofs.Causing.{commit_caused}
use Rattle.coord_core.specs.Decided.{AreRepliesTo}
use Rattle.coord_log.specs.Logs.{commit_due}
use Rattle.node_ports.specs.Nodes.{KeepsRest}
use Rattle.node_ports.proofs.Owed.{meets_same_node, HasWrittenOwed, ok_was_written, wrote_room}
use Rattle.node_ports.proofs.Rises.{rises}
use Rattle.node_ports.proofs.Stamps.{newest_after, found_below, below_newest}
use Rattle.node_ports.proofs.Appended.{prepared_phase, prepared_txs_are, prepared_rest, committed_phase, committed_outcomes, committed_rest}
use Rattle.node_ports.proofs.Appended.{discarded_phase, discarded_rest, done_phase, done_rest}

-- ---- any call: nothing came between it and the one before

-- a fault: nothing was written behind what it found
pub stays_seen : {A : Type 0} (m : Bool) (due : Due A) (old new : Sight) (J : List Record) (f : NodeFault) → MeetsFault m due old new J f
    → new.seen ≡ J
stays_seen m due old new J DiskFault told = told.3.seen
stays_seen m due old new J Memory told = told.1.seen
stays_seen m due old new J (Broken since) told = told.1.seen
stays_seen m due old new J (Refuses why) told = told.1.seen
stays_seen m due old new J (ClockEnd stamp) told = told.1.seen
stays_seen m due old new J (Full used need capacity) told = told.1.seen

seen_of : {A : Type 0} (m : Bool) (due : Due A) (old new : Sight) (J : List Record) (result : Result A NodeFault) → Meets m due old new J result
    → (new.seen ≡ J) ⊎ ((r : Record) × (new.seen ≡ r ∷ J))
seen_of m due old new J (Ok a) (inl (e, stays)) = inl stays.seen
seen_of m due old new J (Ok a) (inr (r, e, appends)) = inr (r, appends.seen)
seen_of m due old new J (Err f) told = inl (stays_seen m due old new J f told)

in_order : (h : Header) (lane : ℕ) (J seen : List Record) → IsJournal h seen → (seen ≡ J) ⊎ ((r : Record) × (seen ≡ r ∷ J))
    → slot_stamp J lane ≤ last_stamp J
in_order h lane J seen j (inl e) = found_below h (λ r. tells_lane lane r) J (subst (λ x. IsJournal h x) e j)
in_order h lane J seen j (inr (r, e)) = below_newest h (λ r. tells_lane lane r) r J (subst (λ x. IsJournal h x) e j)

broken_on : (opened before now : ℕ) (broken : Option ℕ) → before ≤ now → IsBrokenSince opened before broken → IsBrokenSince opened now broken
broken_on opened before now None le h = tt
broken_on opened before now (Some since) le h = (h.0, omega (arith, h.1))

pub told_alone : {A : Type 0} (lane : ℕ) (m : Bool) (due : Option ℕ → List Record → Due A) (broken : Option ℕ) (old new : Sight)
    (result : Result A NodeFault) → Meets m (due broken old.seen) old new old.seen result
    → IsJournal new.header new.seen → old.opened ≤ old.faults → IsBrokenSince old.opened old.faults broken → (broken ≡ None → old.flight ≡ None)
    → (old.flight ≡ None → broken ≡ None)
    → Told true lane m due old new result
told_alone lane m due broken old new result meets journal since_opened since whole unbroken = record {
  found = old.seen;
  broken = broken;
  finds = record { more = []; is = refl; between = tt };
  since = broken_on old.opened old.faults new.faults broken (meets_same_node m (due broken old.seen) old new old.seen result meets).later since;
  whole = whole;
  unbroken = λ alone. unbroken;
  since_opened = since_opened;
  order = in_order new.header lane old.seen new.seen journal (seen_of m (due broken old.seen) old new old.seen result meets);
  later = omega arith;
  meets = meets;
}

pub later_of : {A : Type 0} (m : Bool) (due : Due A) (old new : Sight) (result : Result A NodeFault) → Meets m due old new old.seen result
    → old.faults ≤ new.faults
later_of m due old new result meets = (meets_same_node m due old new old.seen result meets).later

pub header_stays : {A : Type 0} (m : Bool) (due : Due A) (old new : Sight) (result : Result A NodeFault) → Meets m due old new old.seen result
    → new.header ≡ old.header
header_stays m due old new result meets = (meets_same_node m due old new old.seen result meets).header

-- ---- answers

on_ok : {A : Type 0} (result : Result A NodeFault) (P : A → Type 0) → ((a : A) → result ≡ Ok a → P a) → IfOk result P
on_ok (Ok a) P h = h a refl
on_ok (Err f) P h = tt

pub mapped : {A : Type 0} (result : Result A NodeFault) (P Q : A → Type 0) → ((a : A) → P a → Q a) → IfOk result P → IfOk result Q
mapped (Ok a) P Q f h = f a h
mapped (Err e) P Q f h = tt

small : (t stamp : ℕ) → t ≡ stamp → stamp ≤ 2 ^ 62 + 2 ^ 20 → IsStamp t
small t stamp e le = omega arith

on_either : {A : Type 0} (result : Result A NodeFault) (P : Type 0) → ((a : A) → result ≡ Ok a → P) → ((f : NodeFault) → result ≡ Err f → P) → P
on_either (Ok a) P h k = h a refl
on_either (Err f) P h k = k f refl

same_rest : (old new : Sight) (lane : ℕ) → new.seen ≡ old.seen → KeepsRest old new lane
same_rest old new lane seen = λ l is ne. (ap (λ J. (slot J l).phase) seen, ap (λ J. txs_of J (open_batch J l)) seen)

fault_rest : {A : Type 0} (lane : ℕ) (m : Bool) (due : Due A) (old new : Sight) (result : Result A NodeFault) → Meets m due old new old.seen result
    → (f : NodeFault) → result ≡ Err f → KeepsRest old new lane
fault_rest lane m due old new result meets f e = same_rest old new lane
    (stays_seen m due old new old.seen f (subst (λ r. Meets m due old new old.seen r) e meets))

-- ---- Prepare

module _ (lane : ℕ) (txs : List Compact) (broken : Option ℕ) (old new : Sight) (result : Result (Batch × ℕ) NodeFault)
    (meets : Meets true (prepare_due old.header.shape old.capacity lane txs broken old.seen) old new old.seen result) where
  abbrev first_stamp : ℕ
  first_stamp = next_stamp old.seen 0

  abbrev fresh : Record
  fresh = prepare_record old.seen lane txs

  prepare_wrote : (a : Batch × ℕ) → result ≡ Ok a → HasWrittenOwed a (new_batch old.seen lane, first_stamp) fresh first_stamp last_early new old.seen
  prepare_wrote a e =
      wrote_room true broken last_early first_stamp (used_of old.seen) (need_of old.header.shape old.seen fresh) old.capacity
      (new_batch old.seen lane, first_stamp) fresh old new old.seen a
      (subst (λ r. Meets true (prepare_due old.header.shape old.capacity lane txs broken old.seen) old new old.seen r) e meets)

  named_batch : (J : List Record) → new.seen ≡ fresh ∷ J → IsJournal new.header new.seen → new.header ≡ old.header → first_stamp ≤ last_early
      → IsPreparedBatch old.header.shape lane (new_batch old.seen lane, first_stamp)
  named_batch J seen journal header within =
      let after = newest_after new.header fresh J (subst (λ x. IsJournal new.header x) seen journal) in
      record {
        lane_is = refl;
        batch = subst (λ h. (lane < h.shape.coordinators * h.shape.lanes) × (1 ≤ suc (slot old.seen lane).number)
            × (suc (slot old.seen lane).number ≤ 2 ^ 62)) header after.0.1;
        stamp = omega arith;
      }

  pub prepare_named : IsJournal new.header new.seen → IfOk result (IsPreparedBatch old.header.shape lane)
  prepare_named journal = on_ok result (IsPreparedBatch old.header.shape lane) (λ a e.
      (let w = prepare_wrote a e in
      subst (λ a. IsPreparedBatch old.header.shape lane a) (sym w.is)
      (named_batch old.seen w.seen journal (header_stays true (prepare_due old.header.shape old.capacity lane txs broken old.seen) old new result
      meets) w.within)))

  pub prepare_phase : OnOk result ((slot new.seen lane).phase ≡ InPrepare)
  prepare_phase = on_ok result (λ a. (slot new.seen lane).phase ≡ InPrepare)
      (λ a e. prepared_phase old new lane first_stamp txs (suc (slot old.seen lane).number) (prepare_wrote a e).seen)

  pub prepare_txs : OnOk result (txs_of new.seen (open_batch new.seen lane) ≡ txs)
  prepare_txs = on_ok result (λ a. txs_of new.seen (open_batch new.seen lane) ≡ txs)
      (λ a e. prepared_txs_are old new lane first_stamp txs (suc (slot old.seen lane).number) (prepare_wrote a e).seen)

  pub prepare_rest : KeepsRest old new lane
  prepare_rest = on_either result (KeepsRest old new lane)
      (λ a e. prepared_rest old new lane first_stamp txs (suc (slot old.seen lane).number) (prepare_wrote a e).seen)
      (fault_rest lane true (prepare_due old.header.shape old.capacity lane txs broken old.seen) old new result meets)

-- ---- Commit

pub decide_told : (lane : ℕ) (replies : List ShardReplies) (broken : Option ℕ) (old new : Sight) (result : Result ℕ NodeFault)
    → AreReplies old.header.shape replies
    → (AreRepliesTo old.header.shape (txs_of old.seen (open_batch old.seen lane)) replies
    → Meets false (decide_due old.header.shape lane replies broken old.seen) old new old.seen result)
    → IsJournal new.header new.seen → old.opened ≤ old.faults → IsBrokenSince old.opened old.faults broken → (broken ≡ None → old.flight ≡ None)
    → (old.flight ≡ None → broken ≡ None) → DecideAnswer true lane replies old new result
decide_told lane replies broken old new result are meets journal since_opened since whole unbroken = λ each.
    told_alone lane false (decide_due old.header.shape lane replies) broken old new result
    (meets (record { rising = rises old.header.shape.shards replies are.0; each = each })) journal since_opened since whole unbroken

module _ (lane : ℕ) (out : List Outcome) (old new : Sight) (result : Result ℕ NodeFault)
    (appended : IfOk result (λ t. new.seen ≡ Commit t (open_batch old.seen lane) out ∷ old.seen)) where
  pub decide_phase : OnOk result ((slot new.seen lane).phase ≡ InCommit)
  decide_phase = mapped result (λ t. new.seen ≡ Commit t (open_batch old.seen lane) out ∷ old.seen) (λ t. (slot new.seen lane).phase ≡ InCommit)
      (λ t e. committed_phase old new lane t out e) appended

  pub decide_written : OnOk result (out ≡ outcomes_of new.seen (open_batch new.seen lane))
  decide_written = mapped result (λ t. new.seen ≡ Commit t (open_batch old.seen lane) out ∷ old.seen)
      (λ t. out ≡ outcomes_of new.seen (open_batch new.seen lane)) (λ t e. sym (committed_outcomes old new lane t out e)) appended

  pub decide_rest : OnErr result (new.seen ≡ old.seen) → KeepsRest old new lane
  decide_rest as_before = on_either result (KeepsRest old new lane)
      (λ t e. committed_rest old new lane t out (subst (λ r. IfOk r (λ t. new.seen ≡ Commit t (open_batch old.seen lane) out ∷ old.seen)) e appended))
      (λ f e. same_rest old new lane (subst (λ r. OnErr r (new.seen ≡ old.seen)) e as_before))

-- its fault has its cause there, whatever the replies
pub decide_fault : (lane : ℕ) (replies : List ShardReplies) (broken : Option ℕ) (old new : Sight) (result : Result ℕ NodeFault)
    → IfErr result (λ f. (r : Record) × MeetsFault false (commit_due old.header.shape replies r broken old.seen) old new old.seen f)
    → IsJournal new.header new.seen → old.opened ≤ old.faults → IsBrokenSince old.opened old.faults broken → (broken ≡ None → old.flight ≡ None)
    → (old.flight ≡ None → broken ≡ None) → IfErr result (λ f. IsDecideCause f new)
decide_fault lane replies broken old new (Ok t) fault journal since_opened since whole unbroken = tt
decide_fault lane replies broken old new (Err f) (r, fault) journal since_opened since whole unbroken =
    commit_caused true lane (λ J. next_stamp J (reply_cause old.header.shape replies)) (λ J. r) old new f
    (told_alone lane false (commit_due old.header.shape replies r) broken old new (Err f) fault journal since_opened since whole unbroken)

pub decide_stamp : (result : Result ℕ NodeFault) → IfOk result (λ t. t ≤ 2 ^ 62 + 2 ^ 20) → IfOk result IsStamp
decide_stamp result h = mapped result (λ t. t ≤ 2 ^ 62 + 2 ^ 20) IsStamp (λ t le. small t t refl le) h

-- ---- Discard and Done

module _ (lane cause : ℕ) (broken : Option ℕ) (old new : Sight) (result : Result ℕ NodeFault) where
  abbrev stamp : ℕ
  stamp = next_stamp old.seen cause

  module _ (meets : Meets false (discard_due lane cause broken old.seen) old new old.seen result) where
    discard_wrote : (t : ℕ) → result ≡ Ok t → HasWrittenOwed t stamp (discard_record lane cause old.seen) stamp last_late new old.seen
    discard_wrote t e = ok_was_written false broken last_late stamp stamp (discard_record lane cause old.seen) old new old.seen t
        (subst (λ r. Meets false (discard_due lane cause broken old.seen) old new old.seen r) e meets)

    pub discard_stamp : IfOk result IsStamp
    discard_stamp = on_ok result IsStamp (λ t e. small t stamp (discard_wrote t e).is (discard_wrote t e).within)

    pub discard_phase : OnOk result ((slot new.seen lane).phase ≡ InDiscard)
    discard_phase = on_ok result (λ t. (slot new.seen lane).phase ≡ InDiscard) (λ t e. discarded_phase old new lane stamp (discard_wrote t e).seen)

    pub discard_rest : KeepsRest old new lane
    discard_rest = on_either result (KeepsRest old new lane) (λ t e. discarded_rest old new lane stamp (discard_wrote t e).seen)
        (fault_rest lane false (discard_due lane cause broken old.seen) old new result meets)

  module _ (meets : Meets false (done_due lane cause broken old.seen) old new old.seen result) where
    done_wrote : (t : ℕ) → result ≡ Ok t → HasWrittenOwed t stamp (done_record lane cause old.seen) stamp last_late new old.seen
    done_wrote t e = ok_was_written false broken last_late stamp stamp (done_record lane cause old.seen) old new old.seen t
        (subst (λ r. Meets false (done_due lane cause broken old.seen) old new old.seen r) e meets)

    pub done_stamp : IfOk result IsStamp
    done_stamp = on_ok result IsStamp (λ t e. small t stamp (done_wrote t e).is (done_wrote t e).within)

    pub ended_phase : OnOk result ((slot new.seen lane).phase ≡ Idle)
    ended_phase = on_ok result (λ t. (slot new.seen lane).phase ≡ Idle) (λ t e. done_phase old new lane stamp (done_wrote t e).seen)

    pub ended_rest : KeepsRest old new lane
    ended_rest = on_either result (KeepsRest old new lane) (λ t e. done_rest old new lane stamp (done_wrote t e).seen)
        (fault_rest lane false (done_due lane cause broken old.seen) old new result meets)
