-- A shard that may be asked a call of its lane's open batch does not refuse it.
use Rattle.std.proofs.Common.{◌≡◌, ◌⊎◌, inl, inr, ℕ, ◌<◌, ◌≤◌, Bool, true, false, ◌&&◌, ◌||◌, not, ◌==◌, nat_lt, if◌then◌else◌, List, Option, Some}
use Rattle.std.proofs.Common.{None, Ok, Err, ◌+◌, refl, sym, ap, ◌∙◌, subst, arith}
use Rattle.cbdc_types.specs.declared.calls.LockCall.{LockCall}
use Rattle.cbdc_types.specs.declared.calls.Refused.{Refused}
use Rattle.cbdc_types.specs.declared.calls.Refused.TheVariants.{Stale, LaneOpen, NotLocked, NotFinished, OtherPart, OtherOutcome, EarlyStamp}
use Rattle.cbdc_types.specs.declared.calls.Replied.{Replied}
use Rattle.cbdc_types.specs.declared.calls.NodeFault.{NodeFault}
use Rattle.cbdc_types.specs.declared.calls.NodeFault.TheVariants.{Broken, Refused as Refuses, ClockEnd, Full, DiskFault, Memory}
use Rattle.cbdc_model.specs.Records.{Batch, Entry, Record, Shape, record_of, lock_of, entries_in, stamp_in, decisions_in}
use Rattle.cbdc_model.specs.Slots.{Phase, slot, slot_stamp, Idle, InLock, InFinish, InPrepare, InCommit, InDiscard}
use Rattle.cbdc_model.specs.Replies.{entries}
use Rattle.cbdc_model.specs.After.{FitsReplies}
use Rattle.cbdc_model.specs.Next.{Plan, RepliesAt, Kept, Append, Refuse, next_lock, lock_again, next_finish, finish_in, finish_now, finish_again}
use Rattle.cbdc_model.specs.Next.{next_forget, forget_in, is_idle, difference, same_entry, same_decision, misfit}
use Rattle.cbdc_model.specs.Room.{need_of}
use Rattle.cbdc_model.specs.Due.{Due, Answers, Writes, last_early, last_late, if_early, if_room, used_of, lock_record, replied_of, lock_by, stamp_by}
use Rattle.cbdc_model.specs.Sights.{Sight}
use Rattle.ledger_laws.specs.Laws.{IsGranted}
use Rattle.ledger_laws.proofs.Answered.{IsStale, LockAnswered, FinishAnswered, ForgetAnswered, lock_stored, lock_appends, finish_stored}
use Rattle.ledger_laws.proofs.Answered.{finish_appends, forget_stored, forget_appends}
use Rattle.ledger_laws.proofs.Granted.{lock_granted, finish_granted, forget_granted}
use Rattle.ledger_laws.proofs.Last.{phase_stamp}
use Rattle.lane_laws.specs.Batches.{own}
use Rattle.lane_laws.specs.Granting.{MayLock, MayFinish, MayForget}
use Rattle.lane_laws.specs.Faults.{IsAnswered, IsNoRefusal}
use Rattle.lane_laws.proofs.Own.{slot_own, stamp_own, record_own}
use Rattle.lane_laws.proofs.Dues.{err}
use Rattle.lane_laws.proofs.Tellings.{FaultBy}

-- ---- plans that do not say that the batch is stale

abbrev NotStale : {A : Type 0} → Plan A → Type 0
NotStale (Kept answer) = Unit {0}
NotStale (Append answer) = Unit {0}
NotStale (Refuse (Stale kept)) = ⊥
NotStale (Refuse other) = Unit {0}

fresh_if : {A : Type 0} (c : Bool) (one other : Plan A) → (c ≡ true → NotStale one) → (c ≡ false → NotStale other)
    → NotStale (if c then one else other)
fresh_if true one other h g = h refl
fresh_if false one other h g = g refl

idle_is : (p : Phase) → is_idle p ≡ true → p ≡ Idle
idle_is Idle h = refl
idle_is InLock h = absurd (let z : false ≡ true = h in cc)
idle_is InFinish h = absurd (let z : false ≡ true = h in cc)
idle_is InPrepare h = absurd (let z : false ≡ true = h in cc)
idle_is InCommit h = absurd (let z : false ≡ true = h in cc)
idle_is InDiscard h = absurd (let z : false ≡ true = h in cc)

lock_again_fresh : (d : Option ℕ) (J : List Record) (b : Batch) → NotStale (lock_again d J b)
lock_again_fresh None J b = tt
lock_again_fresh (Some at) J b = tt

finish_again_fresh : (d : Option ℕ) (J : List Record) (b : Batch) → NotStale (finish_again d J b)
finish_again_fresh None J b = tt
finish_again_fresh (Some at) J b = tt

finish_now_fresh : (m : Option ℕ) (J : List Record) (lane cause : ℕ) → NotStale (finish_now m J lane cause)
finish_now_fresh (Some at) J lane cause = tt
finish_now_fresh None J lane cause = fresh_if (not (nat_lt (slot_stamp J lane) cause)) _ _ (λ h. tt) (λ h. tt)

module _ (J : List Record) (b : Batch) where
  stale_if : (nat_lt b.number (slot J b.lane).number || ((b.number == (slot J b.lane).number) && is_idle (slot J b.lane).phase)) ≡ true → IsStale J b
  stale_if h = elim (which b.number (slot J b.lane).number (is_idle (slot J b.lane).phase) h)
      [ inl lt ↦ inl lt | inr e ↦ inr (e.0, idle_is (slot J b.lane).phase e.1) ]
    where
      which : (m n : ℕ) (c : Bool) → (nat_lt m n || ((m == n) && c)) ≡ true → (m < n) ⊎ ((n ≡ m) × (c ≡ true))
      which m n c h = grind (arith, h)

  pub lock_fresh : (IsStale J b → ⊥) → (p : List Entry) (cause : ℕ) → NotStale (next_lock J b p cause)
  lock_fresh fresh p cause =
      fresh_if (nat_lt b.number (slot J b.lane).number || ((b.number == (slot J b.lane).number) && is_idle (slot J b.lane).phase)) _ _
      (λ h. absurd (fresh (stale_if h))) (λ one.
      fresh_if (b.number == (slot J b.lane).number) _ _ (λ two. lock_again_fresh (difference same_entry (entries (lock_of J b)) p) J b) (λ two.
      fresh_if (not (is_idle (slot J b.lane).phase)) _ _ (λ three. tt) (λ three.
      fresh_if (not (nat_lt (slot_stamp J b.lane) cause)) _ _ (λ four. tt) (λ four. tt))))

  finish_in_fresh : (q : Phase) (ds : List Bool) (cause : ℕ) → NotStale (finish_in q J b ds cause)
  finish_in_fresh InLock ds cause = finish_now_fresh (misfit (lock_of J b) ds) J b.lane cause
  finish_in_fresh InFinish ds cause = finish_again_fresh (difference same_decision (decisions_in (record_of 3 J b)) ds) J b
  finish_in_fresh Idle ds cause = tt
  finish_in_fresh InPrepare ds cause = tt
  finish_in_fresh InCommit ds cause = tt
  finish_in_fresh InDiscard ds cause = tt

  pub finish_fresh : (IsStale J b → ⊥) → (ds : List Bool) (cause : ℕ) → NotStale (next_finish J b ds cause)
  finish_fresh fresh ds cause =
      fresh_if (nat_lt b.number (slot J b.lane).number || ((b.number == (slot J b.lane).number) && is_idle (slot J b.lane).phase)) _ _
      (λ h. absurd (fresh (stale_if h))) (λ one.
      fresh_if (nat_lt (slot J b.lane).number b.number) _ _ (λ two. tt) (λ two. finish_in_fresh (slot J b.lane).phase ds cause))

  forget_in_fresh : (q : Phase) (cause : ℕ) → NotStale (forget_in q J b cause)
  forget_in_fresh InFinish cause = fresh_if (not (nat_lt (slot_stamp J b.lane) cause)) _ _ (λ h. tt) (λ h. tt)
  forget_in_fresh Idle cause = tt
  forget_in_fresh InLock cause = tt
  forget_in_fresh InPrepare cause = tt
  forget_in_fresh InCommit cause = tt
  forget_in_fresh InDiscard cause = tt

  pub forget_fresh : (slot J b.lane).number ≤ b.number → (cause : ℕ) → NotStale (next_forget J b cause)
  forget_fresh le cause =
      fresh_if (nat_lt b.number (slot J b.lane).number) _ _ (λ h. absurd (above b.number (slot J b.lane).number h le)) (λ one.
      fresh_if (nat_lt (slot J b.lane).number b.number) _ _ (λ two. tt) (λ two. forget_in_fresh (slot J b.lane).phase cause))
    where
      above : (m n : ℕ) → nat_lt m n ≡ true → n ≤ m → ⊥
      above m n h le = grind (arith, h, le)

-- what is granted and not stale is not refused
pub no_refusal : {A : Type 0} (p : Plan A) (why : Refused) → IsGranted p → NotStale p → p ≡ Refuse why → ⊥
no_refusal {A = A} p why granted fresh e = go why (subst (λ q. IsGranted q) e granted) (subst (λ q. NotStale q) e fresh)
  where
    go : (why : Refused) → IsGranted {A = A} (Refuse why) → NotStale {A = A} (Refuse why) → ⊥
    go (Stale n) g h = h
    go (LaneOpen n) g h = g
    go (NotLocked n) g h = g
    go (NotFinished n) g h = g
    go (OtherPart n) g h = g
    go (OtherOutcome n) g h = g
    go (EarlyStamp n) g h = g

-- ---- what a node owes that refuses

refuses_same : {A : Type 0} (a b : Refused) → err {A = A} (Refuses a) ≡ err (Refuses b) → a ≡ b
refuses_same a b e = cc

pub late_refuses : {A : Type 0} (stamp : ℕ) (a : A) (r : Record) (why : Refused)
    → if_early last_late stamp (Writes a r) ≡ Answers (Err (Refuses why)) → ⊥
late_refuses {A = A} stamp a r why e = one (nat_lt last_late stamp) e
  where
    one : (x : Bool) → (if x then Answers (Err (ClockEnd stamp)) else Writes a r) ≡ Answers (Err (Refuses why)) → ⊥
    one true e = let z : err {A = A} (ClockEnd stamp) ≡ err (Refuses why) = e in cc
    one false e = let z : Writes a r ≡ err (Refuses why) = e in cc

pub early_refuses : {A : Type 0} (stamp used need capacity : ℕ) (a : A) (r : Record) (why : Refused)
    → if_early last_early stamp (if_room used need capacity (Writes a r)) ≡ Answers (Err (Refuses why)) → ⊥
early_refuses {A = A} stamp used need capacity a r why e = two (nat_lt last_early stamp) (nat_lt capacity (used + need)) e
  where
    two : (x y : Bool) → (if x then Answers (Err (ClockEnd stamp)) else (if y then Answers (Err (Full used need capacity)) else Writes a r))
        ≡ Answers (Err (Refuses why)) → ⊥
    two true y e = let z : err {A = A} (ClockEnd stamp) ≡ err (Refuses why) = e in cc
    two false true e = let z : err {A = A} (Full used need capacity) ≡ err (Refuses why) = e in cc
    two false false e = let z : Writes a r ≡ err (Refuses why) = e in cc

pub stamp_refuses : (p : Plan ℕ) (what : Record) (why : Refused) → stamp_by p what ≡ Answers (Err (Refuses why)) → p ≡ Refuse why
stamp_refuses (Kept t) what why e = absurd (let z : Answers (Ok t) ≡ err (Refuses why) = e in cc)
stamp_refuses (Refuse w) what why e = ap (λ x. Refuse x) (refuses_same {A = ℕ} w why e)
stamp_refuses (Append t) what why e = absurd (late_refuses t t what why e)

pub lock_refuses : (K : Shape) (capacity : ℕ) (J : List Record) (c : LockCall) (p : Plan RepliesAt) (why : Refused)
    → lock_by p K capacity J c ≡ Answers (Err (Refuses why)) → p ≡ Refuse why
lock_refuses K capacity J c (Kept q) why e = absurd (let z : Answers (Ok (replied_of q)) ≡ err (Refuses why) = e in cc)
lock_refuses K capacity J c (Refuse w) why e = ap (λ x. Refuse x) (refuses_same {A = Replied} w why e)
lock_refuses K capacity J c (Append q) why e = absurd (two (nat_lt last_early q.at) (nat_lt capacity (used_of J + need_of K J (lock_record J c))) e)
  where
    two : (x y : Bool) → (if x then Answers (Err (ClockEnd q.at))
        else (if y then Answers (Err (Full (used_of J) (need_of K J (lock_record J c)) capacity)) else Writes (replied_of q) (lock_record J c)))
        ≡ Answers (Err (Refuses why)) → ⊥
    two true y e = let z : err {A = Replied} (ClockEnd q.at) ≡ err (Refuses why) = e in cc
    two false true e = let z : err {A = Replied} (Full (used_of J) (need_of K J (lock_record J c)) capacity) ≡ err (Refuses why) = e in cc
    two false false e = let z : Writes (replied_of q) (lock_record J c) ≡ err (Refuses why) = e in cc

-- ---- a shard that may be asked

module _ (J : List Record) (b : Batch) where
  idle_lock : (p : Phase) → p ≡ InLock → p ≡ Idle → ⊥
  idle_lock p a i = let z : InLock ≡ Idle = sym a ∙ i in cc

  idle_finish : (p : Phase) → p ≡ InFinish → p ≡ Idle → ⊥
  idle_finish p a i = let z : InFinish ≡ Idle = sym a ∙ i in cc

  pub lock_grants : (p : List Entry) (cause : ℕ) → MayLock J b p cause → (why : Refused) → next_lock J b p cause ≡ Refuse why → ⊥
  lock_grants p cause may why e = no_refusal (next_lock J b p cause) why (lock_granted J b p cause (answers may))
      (lock_fresh J b (fresh may) p cause) e
    where
      answers : MayLock J b p cause → LockAnswered J b p cause
      answers (inl m) = lock_appends m.0 m.1 m.2
      answers (inr m) = lock_stored m.0 m.2

      fresh : MayLock J b p cause → IsStale J b → ⊥
      fresh (inl m) (inl lt) = omega (arith, m.0, lt)
      fresh (inl m) (inr s) = omega (arith, m.0, s.0)
      fresh (inr m) (inl lt) = omega (arith, m.0, lt)
      fresh (inr m) (inr s) = idle_lock (slot J b.lane).phase m.1 s.1

  pub finish_grants : (ds : List Bool) (cause : ℕ) → MayFinish J b ds cause → (why : Refused) → next_finish J b ds cause ≡ Refuse why → ⊥
  finish_grants ds cause (n, may) why e = no_refusal (next_finish J b ds cause) why (finish_granted J b ds cause (answers may))
      (finish_fresh J b (fresh may) ds cause) e
    where
      answers : (((slot J b.lane).phase ≡ InLock) × FitsReplies (lock_of J b) ds × (slot_stamp J b.lane < cause))
          ⊎ (((slot J b.lane).phase ≡ InFinish) × (decisions_in (record_of 3 J b) ≡ ds)) → FinishAnswered J b ds cause
      answers (inl m) = finish_appends n m.0 m.1 m.2
      answers (inr m) = finish_stored n m.0 m.1

      fresh : (((slot J b.lane).phase ≡ InLock) × FitsReplies (lock_of J b) ds × (slot_stamp J b.lane < cause))
          ⊎ (((slot J b.lane).phase ≡ InFinish) × (decisions_in (record_of 3 J b) ≡ ds)) → IsStale J b → ⊥
      fresh how (inl lt) = omega (arith, n, lt)
      fresh (inl m) (inr s) = idle_lock (slot J b.lane).phase m.0 s.1
      fresh (inr m) (inr s) = idle_finish (slot J b.lane).phase m.0 s.1

  pub forget_grants : (cause : ℕ) → MayForget J b cause → (why : Refused) → next_forget J b cause ≡ Refuse why → ⊥
  forget_grants cause (n, may) why e = no_refusal (next_forget J b cause) why (forget_granted J b cause (answers may))
      (forget_fresh J b (omega (arith, n)) cause) e
    where
      answers : (((slot J b.lane).phase ≡ InFinish) × (slot_stamp J b.lane < cause)) ⊎ ((slot J b.lane).phase ≡ Idle) → ForgetAnswered J b cause
      answers (inl m) = forget_appends n m.0 m.1
      answers (inr i) = forget_stored n i

-- ---- what other lanes wrote changes nothing of it

module _ (lane number : ℕ) (L M : List Record) (same : own lane M ≡ own lane L) where
  abbrev B : Batch
  B = record { lane = lane; number = number }

  slot_is : slot M lane ≡ slot L lane
  slot_is = slot_own lane M ∙ ap (λ X. slot X lane) same ∙ sym (slot_own lane L)

  stamp_is : slot_stamp M lane ≡ slot_stamp L lane
  stamp_is = stamp_own lane M ∙ ap (λ X. slot_stamp X lane) same ∙ sym (stamp_own lane L)

  record_is : (kind : ℕ) → record_of kind M B ≡ record_of kind L B
  record_is kind = record_own kind B M ∙ ap (λ X. record_of kind X B) same ∙ sym (record_own kind B L)

  number_is : (slot M lane).number ≡ (slot L lane).number
  number_is = ap (λ q. q.number) slot_is

  phase_is : (slot M lane).phase ≡ (slot L lane).phase
  phase_is = ap (λ q. q.phase) slot_is

  lock_is : lock_of M B ≡ lock_of L B
  lock_is = ap entries_in (record_is 2)

  pub lock_on : (p : List Entry) (cause : ℕ) → MayLock L B p cause → MayLock M B p cause
  lock_on p cause (inl m) = inl (subst (λ n. n < number) (sym number_is) m.0, phase_is ∙ m.1, subst (λ t. t < cause) (sym stamp_is) m.2)
  lock_on p cause (inr m) = inr (number_is ∙ m.0, phase_is ∙ m.1, ap entries lock_is ∙ m.2)

  pub finish_on : (ds : List Bool) (cause : ℕ) → MayFinish L B ds cause → MayFinish M B ds cause
  finish_on ds cause (n, inl m) = (
    number_is ∙ n,
    inl (phase_is ∙ m.0, subst (λ es. FitsReplies es ds) (sym lock_is) m.1, subst (λ t. t < cause) (sym stamp_is) m.2),
  )
  finish_on ds cause (n, inr m) = (number_is ∙ n, inr (phase_is ∙ m.0, ap decisions_in (record_is 3) ∙ m.1))

  pub forget_on : (cause : ℕ) → MayForget L B cause → MayForget M B cause
  forget_on cause (n, inl m) = (number_is ∙ n, inl (phase_is ∙ m.0, subst (λ t. t < cause) (sym stamp_is) m.1))
  forget_on cause (n, inr i) = (number_is ∙ n, inr (phase_is ∙ i))

-- ---- the stamp of the lane's last record, where that is the batch's Lock or its Finish

module _ (J : List Record) (b : Batch) (n : (slot J b.lane).number ≡ b.number) where
  pub locked_stamp : (slot J b.lane).phase ≡ InLock → slot_stamp J b.lane ≡ stamp_in (record_of 2 J b)
  locked_stamp q = phase_stamp J b n InLock q (λ i. let z : Idle ≡ InLock = sym i ∙ q in cc)

  pub finished_stamp : (slot J b.lane).phase ≡ InFinish → slot_stamp J b.lane ≡ stamp_in (record_of 3 J b)
  finished_stamp q = phase_stamp J b n InFinish q (λ i. let z : Idle ≡ InFinish = sym i ∙ q in cc)

-- ---- a fault of a call that nothing refuses

pub unrefused : {A : Type 0} (memory : Bool) (due : Due A) (f : NodeFault) → ((why : Refused) → due ≡ Answers (Err (Refuses why)) → ⊥)
    → FaultBy memory due f → IsNoRefusal f
unrefused memory due (Broken since) never h = tt
unrefused memory due (Refuses why) never h = never why h
unrefused memory due (ClockEnd stamp) never h = tt
unrefused memory due (Full used need capacity) never h = tt
unrefused memory due DiskFault never h = tt
unrefused memory due Memory never h = tt

pub answer_unrefused : {A : Type 0} (memory : Bool) (due : Due A) (now : Sight) (f : NodeFault)
    → ((why : Refused) → due ≡ Answers (Err (Refuses why)) → ⊥) → IsAnswered memory due now f → IsNoRefusal f
answer_unrefused memory due now (Broken since) never h = tt
answer_unrefused memory due now (Refuses why) never h = never why h
answer_unrefused memory due now (ClockEnd stamp) never h = tt
answer_unrefused memory due now (Full used need capacity) never h = tt
answer_unrefused memory due now DiskFault never h = tt
answer_unrefused memory due now Memory never h = tt
