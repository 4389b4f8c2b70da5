-- A fault that a node answers has its cause there.
use Rattle.std.proofs.Common.{◌≡◌, inl, inr, ℕ, ◌+◌, ◌*◌, ◌^◌, ◌<◌, Bool, true, false, nat_lt, if◌then◌else◌, List, Result, Err, refl, sym, ap, subst}
use Rattle.std.proofs.Common.{arith}
use Rattle.cbdc_types.specs.declared.calls.LockCall.{LockCall}
use Rattle.cbdc_types.specs.declared.calls.FinishCall.{FinishCall}
use Rattle.cbdc_types.specs.declared.calls.ForgetCall.{ForgetCall}
use Rattle.std.proofs.lemmas.Nat.{row-Below}
use Rattle.cbdc_types.specs.declared.calls.Refused.{Refused}
use Rattle.cbdc_types.specs.declared.calls.Replied.{Replied}
use Rattle.cbdc_types.specs.declared.calls.NodeFault.{NodeFault}
use Rattle.cbdc_types.specs.declared.calls.NodeFault.TheVariants.{Broken, Refused as Refuses, ClockEnd, Full, DiskFault, Memory}
use Rattle.cbdc_model.specs.Records.{Shape, Batch, Compact, Record}
use Rattle.cbdc_model.specs.Ranges.{home_of}
use Rattle.cbdc_model.specs.Next.{Plan, RepliesAt, Kept, Append, Refuse, next_lock, next_finish, next_forget, next_stamp}
use Rattle.cbdc_model.specs.Room.{need_of}
use Rattle.cbdc_model.specs.Due.{Due, Answers, Writes, unless_broken, last_early, last_late, if_early, if_room, used_of, lock_record, replied_of}
use Rattle.cbdc_model.specs.Due.{lock_by, stamp_by, prepare_due, prepare_record, new_batch, discard_due, discard_record, done_due, done_record}
use Rattle.cbdc_model.specs.Records.{Finish, Forget}
use Rattle.cbdc_model.specs.Sights.{Sight, Told}
use Rattle.lane_laws.specs.Calls.{shard}
use Rattle.lane_laws.specs.Answers.{LockAnswer, FinishAnswer, ForgetAnswer}
use Rattle.lane_laws.proofs.Dues.{ok, err, lock_unbroken, late_unbroken, stamp_unbroken, late_full, stamp_full, late_end, stamp_end}
use Rattle.lane_laws.proofs.Tellings.{Stopped, told_err}
use Rattle.lane_laws.proofs.ByShard.{every_any, first_at}
use Rattle.lane_driver.specs.declared.fault.Stop.{Stop}
use Rattle.lane_driver.specs.Stops.{IsStoppedAt}
use Rattle.lane_driver.specs.Causes.{DiskHasNoRoom, IsCause, IsLogCause, IsDecideCause, IsShardCause, IsCausedStop}
use Rattle.lane_driver.specs.Told.{AreShards}
use Rattle.lane_driver.proofs.Phasing.{fault_inside}

-- ---- what a due fault says

-- a call that takes room: its stamp is past its bound, or its disk has no room for it
module _ {A : Type 0} (stamp used need capacity : ℕ) (a : A) (r : Record) where
  above : (x y : ℕ) → nat_lt x y ≡ true → x < y
  above x y h = grind (arith, h)

  roomy_unbroken : (s : ℕ) → if_early last_early stamp (if_room used need capacity (Writes a r)) ≡ Answers (Err (Broken s)) → ⊥
  roomy_unbroken s e = two (nat_lt last_early stamp) (nat_lt capacity (used + need)) e
    where
      two : (x y : Bool) → (if x then Answers (Err (ClockEnd stamp)) else (if y then Answers (Err (Full used need capacity)) else Writes a r))
          ≡ Answers (Err (Broken s)) → ⊥
      two true y e = let z : err {A = A} (ClockEnd stamp) ≡ err (Broken s) = e in cc
      two false true e = let z : err {A = A} (Full used need capacity) ≡ err (Broken s) = e in cc
      two false false e = let z : Writes a r ≡ err (Broken s) = e in cc

  roomy_end : (end : ℕ) → if_early last_early stamp (if_room used need capacity (Writes a r)) ≡ Answers (Err (ClockEnd end)) → 2 ^ 62 < end
  roomy_end end e = two (nat_lt last_early stamp) (nat_lt capacity (used + need)) refl e
    where
      two : (x y : Bool) → nat_lt last_early stamp ≡ x
          → (if x then Answers (Err (ClockEnd stamp)) else (if y then Answers (Err (Full used need capacity)) else Writes a r))
          ≡ Answers (Err (ClockEnd end)) → 2 ^ 62 < end
      two true y h e = let z : err {A = A} (ClockEnd stamp) ≡ err (ClockEnd end) = e in let s : stamp ≡ end = cc in
          subst (λ n. last_early < n) s (above last_early stamp h)
      two false true h e = absurd (let z : err {A = A} (Full used need capacity) ≡ err (ClockEnd end) = e in cc)
      two false false h e = absurd (let z : Writes a r ≡ err (ClockEnd end) = e in cc)

  roomy_full : (u n c : ℕ) → if_early last_early stamp (if_room used need capacity (Writes a r)) ≡ Answers (Err (Full u n c))
      → (c ≡ capacity) × (u ≡ used) × (n ≡ need) × (capacity < used + need)
  roomy_full u n c e = two (nat_lt last_early stamp) (nat_lt capacity (used + need)) refl e
    where
      two : (x y : Bool) → nat_lt capacity (used + need) ≡ y
          → (if x then Answers (Err (ClockEnd stamp)) else (if y then Answers (Err (Full used need capacity)) else Writes a r))
          ≡ Answers (Err (Full u n c))
          → (c ≡ capacity) × (u ≡ used) × (n ≡ need) × (capacity < used + need)
      two true y h e = absurd (let z : err {A = A} (ClockEnd stamp) ≡ err (Full u n c) = e in cc)
      two false true h e = let z : err {A = A} (Full used need capacity) ≡ err (Full u n c) = e in (cc, cc, cc, above capacity (used + need) h)
      two false false h e = absurd (let z : Writes a r ≡ err (Full u n c) = e in cc)

  roomy_grants : (why : Refused) → if_early last_early stamp (if_room used need capacity (Writes a r)) ≡ Answers (Err (Refuses why)) → ⊥
  roomy_grants why e = two (nat_lt last_early stamp) (nat_lt capacity (used + need)) e
    where
      two : (x y : Bool) → (if x then Answers (Err (ClockEnd stamp)) else (if y then Answers (Err (Full used need capacity)) else Writes a r))
          ≡ Answers (Err (Refuses why)) → ⊥
      two true y e = let z : err {A = A} (ClockEnd stamp) ≡ err (Refuses why) = e in cc
      two false true e = let z : err {A = A} (Full used need capacity) ≡ err (Refuses why) = e in cc
      two false false e = let z : Writes a r ≡ err (Refuses why) = e in cc

no_room : (K : Shape) (J : List Record) (limit u n c : ℕ) (r : Record)
    → (c ≡ limit) × (u ≡ used_of J) × (n ≡ need_of K J r) × (limit < used_of J + need_of K J r) → DiskHasNoRoom K limit J u n c
no_room K J limit u n c r h = record {
  limit_is = h.0;
  above = omega (arith, h.0, h.1, h.2, h.3);
  used_is = h.1;
  wanted = r;
  need_is = h.2;
}

lock_end : (K : Shape) (capacity : ℕ) (J : List Record) (c : LockCall) (p : Plan RepliesAt) (end : ℕ)
    → lock_by p K capacity J c ≡ Answers (Err (ClockEnd end)) → 2 ^ 62 < end
lock_end K capacity J c (Kept q) end e = absurd (let z : ok (replied_of q) ≡ err (ClockEnd end) = e in cc)
lock_end K capacity J c (Refuse why) end e = absurd (let z : err {A = Replied} (Refuses why) ≡ err (ClockEnd end) = e in cc)
lock_end K capacity J c (Append q) end e = roomy_end q.at (used_of J) (need_of K J (lock_record J c)) capacity (replied_of q) (lock_record J c) end e

lock_full : (K : Shape) (capacity : ℕ) (J : List Record) (c : LockCall) (p : Plan RepliesAt) (u n m : ℕ)
    → lock_by p K capacity J c ≡ Answers (Err (Full u n m)) → DiskHasNoRoom K capacity J u n m
lock_full K capacity J c (Kept q) u n m e = absurd (let z : ok (replied_of q) ≡ err (Full u n m) = e in cc)
lock_full K capacity J c (Refuse why) u n m e = absurd (let z : err {A = Replied} (Refuses why) ≡ err (Full u n m) = e in cc)
lock_full K capacity J c (Append q) u n m e =
    no_room K J capacity u n m (lock_record J c) (roomy_full q.at (used_of J) (need_of K J (lock_record J c)) capacity (replied_of q)
    (lock_record J c) u n m e)

early : (end : ℕ) → 2 ^ 62 + 2 ^ 20 < end → 2 ^ 62 < end
early end h = omega (arith, h)

-- ---- a call

-- what a call owes that answers a fault of its own
record IsOwing {A : Type 0} (K : Shape) (limit : ℕ) (by : List Record → Due A) : Type 0 where
  unbroken : (J : List Record) (s : ℕ) → by J ≡ Answers (Err (Broken s)) → ⊥
  ends : (J : List Record) (stamp : ℕ) → by J ≡ Answers (Err (ClockEnd stamp)) → 2 ^ 62 < stamp
  fills : (J : List Record) (used need capacity : ℕ) → by J ≡ Answers (Err (Full used need capacity)) → DiskHasNoRoom K limit J used need capacity

module _ {A : Type 0} (alone : Bool) (lane : ℕ) (memory : Bool) (by : List Record → Due A) (old new : Sight)
    (owing : IsOwing old.header.shape old.capacity by) where
  room_now : (f : NodeFault) (st : Stopped alone lane memory by old new f) (u n c : ℕ) → DiskHasNoRoom old.header.shape old.capacity st.found u n c
      → DiskHasNoRoom new.header.shape new.capacity new.seen u n c
  room_now f st u n c h =
      subst (λ J. DiskHasNoRoom new.header.shape new.capacity J u n c) (sym st.seen)
      (subst (λ m. DiskHasNoRoom new.header.shape m st.found u n c) (sym st.node.capacity)
      (subst (λ k. DiskHasNoRoom k.shape old.capacity st.found u n c) (sym st.node.header) h))

  because : (f : NodeFault) → Stopped alone lane memory by old new f → IsCause f new
  because (Broken since) st = st.risen
  because (Refuses why) st = tt
  because (ClockEnd stamp) st = owing.ends st.found stamp st.why
  because (Full used need capacity) st = room_now (Full used need capacity) st used need capacity (owing.fills st.found used need capacity st.why)
  because DiskFault st = st.risen
  because Memory st = tt

  caused : (f : NodeFault) → Told alone lane memory (λ broken J. unless_broken broken (by J)) old new (Err f) → IsCause f new
  caused f t = because f (told_err alone lane memory by old new f owing.unbroken t)

  -- at a coordinator, which refuses nothing
  log_because : ((J : List Record) (why : Refused) → by J ≡ Answers (Err (Refuses why)) → ⊥) → (f : NodeFault)
      → Stopped alone lane memory by old new f → IsLogCause f new
  log_because never (Broken since) st = st.risen
  log_because never (Refuses why) st = never st.found why st.why
  log_because never (ClockEnd stamp) st = owing.ends st.found stamp st.why
  log_because never (Full used need capacity) st =
      room_now (Full used need capacity) st used need capacity (owing.fills st.found used need capacity st.why)
  log_because never DiskFault st = st.risen
  log_because never Memory st = tt

  log_caused : ((J : List Record) (why : Refused) → by J ≡ Answers (Err (Refuses why)) → ⊥) → (f : NodeFault)
      → Told alone lane memory (λ broken J. unless_broken broken (by J)) old new (Err f) → IsLogCause f new
  log_caused never f t = log_because never f (told_err alone lane memory by old new f owing.unbroken t)

-- ---- each call

pub lock_caused : (alone : Bool) (c : ℕ × LockCall) (old new : Sight) (f : NodeFault) → LockAnswer alone c old new (Err f) → IsCause f new
lock_caused alone c old new f t = caused alone c.1.batch.lane true
    (λ J. lock_by (next_lock J c.1.batch c.1.part c.1.cause) old.header.shape old.capacity J c.1) old new owing f t
  where
    owing : IsOwing old.header.shape old.capacity (λ J. lock_by (next_lock J c.1.batch c.1.part c.1.cause) old.header.shape old.capacity J c.1)
    owing = record {
      unbroken = λ J s e. lock_unbroken old.header.shape old.capacity J c.1 (next_lock J c.1.batch c.1.part c.1.cause) s e;
      ends = λ J stamp e. lock_end old.header.shape old.capacity J c.1 (next_lock J c.1.batch c.1.part c.1.cause) stamp e;
      fills = λ J u n m e. lock_full old.header.shape old.capacity J c.1 (next_lock J c.1.batch c.1.part c.1.cause) u n m e;
    }

stamp_owing : (K : Shape) (limit : ℕ) (plan : List Record → Plan ℕ) (what : List Record → Record) → IsOwing K limit (λ J. stamp_by (plan J) (what J))
stamp_owing K limit plan what = record {
  unbroken = λ J s e. stamp_unbroken (plan J) (what J) s e;
  ends = λ J stamp e. early stamp (stamp_end (plan J) (what J) stamp e);
  fills = λ J u n m e. absurd (stamp_full (plan J) (what J) u n m e);
}

pub finish_caused : (alone : Bool) (c : ℕ × FinishCall) (old new : Sight) (f : NodeFault) → FinishAnswer alone c old new (Err f) → IsCause f new
finish_caused alone c old new f t =
    caused alone c.1.batch.lane false (λ J. stamp_by (next_finish J c.1.batch c.1.decisions c.1.cause)
    (Finish (next_stamp J c.1.cause) c.1.batch c.1.decisions)) old new
    (stamp_owing old.header.shape old.capacity (λ J. next_finish J c.1.batch c.1.decisions c.1.cause)
    (λ J. Finish (next_stamp J c.1.cause) c.1.batch c.1.decisions)) f t

pub forget_caused : (alone : Bool) (c : ℕ × ForgetCall) (old new : Sight) (f : NodeFault) → ForgetAnswer alone c old new (Err f) → IsCause f new
forget_caused alone c old new f t =
    caused alone c.1.batch.lane false (λ J. stamp_by (next_forget J c.1.batch c.1.cause) (Forget (next_stamp J c.1.cause) c.1.batch)) old new
    (stamp_owing old.header.shape old.capacity (λ J. next_forget J c.1.batch c.1.cause) (λ J. Forget (next_stamp J c.1.cause) c.1.batch)) f t

pub prepare_caused : (alone : Bool) (lane : ℕ) (txs : List Compact) (old new : Sight) (f : NodeFault)
    → Told alone lane true (prepare_due old.header.shape old.capacity lane txs) old new (Err f) → IsLogCause f new
prepare_caused alone lane txs old new f t = log_caused alone lane true by old new owing refuses f t
  where
    by : List Record → Due (Batch × ℕ)
    by J = if_early last_early (next_stamp J 0) (if_room (used_of J) (need_of old.header.shape J (prepare_record J lane txs)) old.capacity
        (Writes (new_batch J lane, next_stamp J 0) (prepare_record J lane txs)))

    owing : IsOwing old.header.shape old.capacity by
    owing = record {
      unbroken = λ J s e. roomy_unbroken (next_stamp J 0) (used_of J) (need_of old.header.shape J (prepare_record J lane txs)) old.capacity
          (new_batch J lane, next_stamp J 0) (prepare_record J lane txs) s e;
      ends = λ J stamp e. roomy_end (next_stamp J 0) (used_of J) (need_of old.header.shape J (prepare_record J lane txs)) old.capacity
          (new_batch J lane, next_stamp J 0) (prepare_record J lane txs) stamp e;
      fills = λ J u n m e. no_room old.header.shape J old.capacity u n m (prepare_record J lane txs)
          (roomy_full (next_stamp J 0) (used_of J) (need_of old.header.shape J (prepare_record J lane txs)) old.capacity
          (new_batch J lane, next_stamp J 0) (prepare_record J lane txs) u n m e);
    }

    refuses : (J : List Record) (why : Refused) → by J ≡ Answers (Err (Refuses why)) → ⊥
    refuses J why e = roomy_grants (next_stamp J 0) (used_of J) (need_of old.header.shape J (prepare_record J lane txs)) old.capacity
        (new_batch J lane, next_stamp J 0) (prepare_record J lane txs) why e

late_owing : {A : Type 0} (K : Shape) (limit : ℕ) (stamp : List Record → ℕ) (a : List Record → A) (r : List Record → Record)
    → IsOwing K limit (λ J. if_early last_late (stamp J) (Writes (a J) (r J)))
late_owing K limit stamp a r = record {
  unbroken = λ J s e. late_unbroken (stamp J) (a J) (r J) s e;
  ends = λ J end e. early end (late_end (stamp J) (a J) (r J) end e);
  fills = λ J u n m e. absurd (late_full (stamp J) (a J) (r J) u n m e);
}

late_grants : {A : Type 0} (stamp : ℕ) (a : A) (r : Record) (why : Refused) → if_early last_late stamp (Writes a r) ≡ Answers (Err (Refuses why)) → ⊥
late_grants {A = A} stamp a r why e = one (nat_lt last_late stamp) e
  where
    one : (x : Bool) → (if x then Answers (Err (ClockEnd stamp)) else Writes a r) ≡ Answers (Err (Refuses why)) → ⊥
    one true e = let z : err {A = A} (ClockEnd stamp) ≡ err (Refuses why) = e in cc
    one false e = let z : Writes a r ≡ err (Refuses why) = e in cc

-- a record of a coordinator's open batch: only its stamp can be past its bound
late_caused : (alone : Bool) (lane : ℕ) (stamp : List Record → ℕ) (what : List Record → Record) (old new : Sight) (f : NodeFault)
    → Told alone lane false (λ broken J. unless_broken broken (if_early last_late (stamp J) (Writes (stamp J) (what J)))) old new (Err f)
    → IsLogCause f new
late_caused alone lane stamp what old new f t =
    log_caused alone lane false (λ J. if_early last_late (stamp J) (Writes (stamp J) (what J))) old new
    (late_owing old.header.shape old.capacity stamp stamp what)
    (λ J why e. late_grants (stamp J) (stamp J) (what J) why e) f t

pub discard_caused : (alone : Bool) (lane cause : ℕ) (old new : Sight) (f : NodeFault)
    → Told alone lane false (discard_due lane cause) old new (Err f) → IsLogCause f new
discard_caused alone lane cause old new f t = late_caused alone lane (λ J. next_stamp J cause) (λ J. discard_record lane cause J) old new f t

pub done_caused : (alone : Bool) (lane cause : ℕ) (old new : Sight) (f : NodeFault) → Told alone lane false (done_due lane cause) old new (Err f)
    → IsLogCause f new
done_caused alone lane cause old new f t = late_caused alone lane (λ J. next_stamp J cause) (λ J. done_record lane cause J) old new f t

-- ---- a decide

-- what is a cause at a decide is one at any call of its coordinator
pub decide_caused : (f : NodeFault) (now : Sight) → IsDecideCause f now → IsLogCause f now
decide_caused (Broken since) now is = is
decide_caused (Refuses why) now is = is
decide_caused (ClockEnd stamp) now is = is
decide_caused (Full used need capacity) now is = absurd is
decide_caused DiskFault now is = is
decide_caused Memory now is = absurd is

-- only its stamp can be past its bound, and it takes no memory
pub commit_caused : (alone : Bool) (lane : ℕ) (stamp : List Record → ℕ) (what : List Record → Record) (old new : Sight) (f : NodeFault)
    → Told alone lane false (λ broken J. unless_broken broken (if_early last_late (stamp J) (Writes (stamp J) (what J)))) old new (Err f)
    → IsDecideCause f new
commit_caused alone lane stamp what old new f t =
    because_late f (told_err alone lane false (λ J. if_early last_late (stamp J) (Writes (stamp J) (what J))) old new f owing.unbroken t)
  where
    owing : IsOwing old.header.shape old.capacity (λ J. if_early last_late (stamp J) (Writes (stamp J) (what J)))
    owing = late_owing old.header.shape old.capacity stamp stamp what

    because_late : (f : NodeFault) → Stopped alone lane false (λ J. if_early last_late (stamp J) (Writes (stamp J) (what J))) old new f
        → IsDecideCause f new
    because_late (Broken since) st = st.risen
    because_late (Refuses why) st = late_grants (stamp st.found) (stamp st.found) (what st.found) why st.why
    because_late (ClockEnd end) st = owing.ends st.found end st.why
    because_late (Full used need capacity) st = late_full (stamp st.found) (stamp st.found) (what st.found) used need capacity st.why
    because_late DiskFault st = st.risen
    because_late Memory st = let z : false ≡ true = st.why in cc

-- ---- the lane's fault

-- a phase that stopped at one of its shards
pub shard_fault : {C A : Type 0} (K : Shape) (told : ℕ × C → Sight → Sight → Result A NodeFault → Type 0) (cs : List (ℕ × C)) (I J : ℕ → Sight)
    (e : Stop)
    → ((c : ℕ × C) (old new : Sight) (f : NodeFault) → told c old new (Err f) → IsCause f new) → AreShards shard K.shards cs
    → IsStoppedAt K told cs I J e → IsShardCause K J e.node e.fault
shard_fault {C = C} K told cs I J e cause rise (s, f, at, stop) =
    let c = first_at told (λ (c : ℕ × C). Unit {0}) I J s f cs stop.asked.answers stop.asked.each (every_any (λ (c : ℕ × C). Unit {0}) (λ c. tt) cs)
    stop.first in (
      s,
      fault_inside cs stop.asked.answers s K.shards f stop.first rise,
      ap (λ x. x.node) at,
      subst (λ x. IsCause x.fault (J s)) (sym at) (cause c.0 (I s) (J s) f c.3),
    )

home_inside : (K : Shape) (lane : ℕ) → lane < K.coordinators * K.lanes → home_of K lane < K.coordinators
home_inside K lane lt = (row-Below lane K.lanes K.lanes K.coordinators (grind (arith, lt)) (omega arith)).1

-- a call that its coordinator did not do
pub log_fault : (K : Shape) (lane at : ℕ) (logs shards : ℕ → Sight) (node : ℕ) (f : NodeFault) → lane < K.coordinators * K.lanes
    → at ≡ home_of K lane → node ≡ home_of K lane
    → IsLogCause f (logs at) → IsCausedStop K logs shards node f
log_fault K lane at logs shards node f lt home is cause =
    subst (λ n. IsCausedStop K logs shards n f) (sym is) (inr (inl (home_inside K lane lt, subst (λ n. IsLogCause f (logs n)) home cause)))
