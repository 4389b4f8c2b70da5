-- What a node's answer says of what it found: the record that it wrote, or what it had kept.
use Rattle.std.proofs.Common.{◌≡◌, ℕ, ◌<◌, Bool, true, false, ◌&&◌, ◌||◌, not, ◌==◌, ◌+◌, ◌^◌, nat_lt, if◌then◌else◌, List, [], Option, Some, None}
use Rattle.std.proofs.Common.{Result, Ok, Err, refl, sym, ap, subst, arith}
use Rattle.cbdc_types.specs.declared.calls.LockCall.{LockCall}
use Rattle.cbdc_types.specs.declared.calls.Refused.{Refused}
use Rattle.cbdc_types.specs.declared.calls.Refused.TheVariants.{Stale, LaneOpen, NotLocked, NotFinished, OtherPart, OtherOutcome, EarlyStamp}
use Rattle.cbdc_types.specs.declared.calls.Replied.{Replied}
use Rattle.cbdc_types.specs.declared.calls.NodeFault.{NodeFault}
use Rattle.cbdc_types.specs.declared.calls.NodeFault.TheVariants.{Broken, Refused as Refuses, ClockEnd, Full}
use Rattle.cbdc_model.specs.Records.{Shape, Batch, Entry, Record, record_of, lock_of, decisions_in, stamp_in}
use Rattle.cbdc_model.specs.Slots.{Phase, slot, slot_stamp, Idle, InLock, InFinish, InPrepare, InCommit, InDiscard}
use Rattle.cbdc_model.specs.Replies.{answered, entries, replies}
use Rattle.cbdc_model.specs.Next.{Plan, Kept, Append, Refuse, RepliesAt, difference, same_entry, same_decision, is_idle, next_stamp, misfit}
use Rattle.cbdc_model.specs.Next.{next_lock, lock_again, next_finish, finish_in, finish_now, finish_again, next_forget, forget_in}
use Rattle.cbdc_model.specs.Due.{Due, Answers, Writes, unless_broken, last_early, last_late, if_early, if_room, used_of, lock_record, replied_of}
use Rattle.cbdc_model.specs.Due.{lock_by, stamp_by}
use Rattle.cbdc_model.specs.Room.{need_of}

abbrev pub ok : {A : Type 0} → A → Due A
ok a = Answers (Ok a)

abbrev pub err : {A : Type 0} → NodeFault → Due A
err f = Answers (Err f)

pub not_broken : {A : Type 0} (broken : Option ℕ) (due : Due A) (a : A) (r : Record) → unless_broken broken due ≡ Writes a r → due ≡ Writes a r
not_broken (Some since) due a r e = absurd (let z : Answers (Err (Broken since)) ≡ Writes a r = e in cc)
not_broken None due a r e = e

pub not_broken_ok : {A : Type 0} (broken : Option ℕ) (due : Due A) (a : A) → unless_broken broken due ≡ Answers (Ok a) → due ≡ Answers (Ok a)
not_broken_ok {A = A} (Some since) due a e = absurd (let z : err {A = A} (Broken since) ≡ Answers (Ok a) = e in cc)
not_broken_ok None due a e = e

pub past : {A : Type 0} (b : Bool) (x : Result A NodeFault) (d : Due A) (a : A) (r : Record) → (if b then Answers x else d) ≡ Writes a r
    → d ≡ Writes a r
past true x d a r e = absurd (let z : Answers x ≡ Writes a r = e in cc)
past false x d a r e = e

pub past_ok : {A : Type 0} (b : Bool) (f : NodeFault) (d : Due A) (a : A) → (if b then Answers (Err f) else d) ≡ Answers (Ok a) → d ≡ Answers (Ok a)
past_ok {A = A} true f d a e = absurd (let z : err {A = A} f ≡ Answers (Ok a) = e in cc)
past_ok false f d a e = e

pub writes_same : {A : Type 0} (a b : A) (r q : Record) → Writes a r ≡ Writes b q → (b ≡ a) × (q ≡ r)
writes_same a b r q e = (cc, cc)

answers_same : {A : Type 0} (a b : A) → ok a ≡ ok b → b ≡ a
answers_same a b e = cc

-- a Lock is written where the plan is to append it
pub lock_wrote : (K : Shape) (capacity : ℕ) (J : List Record) (c : LockCall) (p : Plan RepliesAt) (a : Replied) (r : Record)
    → lock_by p K capacity J c ≡ Writes a r
    → (q : RepliesAt) × (p ≡ Append q) × (a ≡ replied_of q) × (r ≡ lock_record J c)
lock_wrote K capacity J c (Kept q) a r e = absurd (let z : Answers (Ok (replied_of q)) ≡ Writes a r = e in cc)
lock_wrote K capacity J c (Refuse why) a r e = absurd (let z : Answers (Err (Refuses why)) ≡ Writes a r = e in cc)
lock_wrote K capacity J c (Append q) a r e =
    let w = writes_same (replied_of q) a (lock_record J c) r
    (past (nat_lt capacity (used_of J + need_of K J (lock_record J c))) (Err (Full (used_of J) (need_of K J (lock_record J c)) capacity))
    (Writes (replied_of q) (lock_record J c)) a r (past (nat_lt last_early q.at) (Err (ClockEnd q.at))
    (if_room (used_of J) (need_of K J (lock_record J c)) capacity (Writes (replied_of q) (lock_record J c))) a r e)) in (q, refl, w.0, w.1)

pub lock_kept : (K : Shape) (capacity : ℕ) (J : List Record) (c : LockCall) (p : Plan RepliesAt) (a : Replied)
    → lock_by p K capacity J c ≡ Answers (Ok a) → (q : RepliesAt) × (p ≡ Kept q) × (a ≡ replied_of q)
lock_kept K capacity J c (Kept q) a e = (q, refl, answers_same (replied_of q) a e)
lock_kept K capacity J c (Refuse why) a e = absurd (let z : err {A = Replied} (Refuses why) ≡ Answers (Ok a) = e in cc)
lock_kept K capacity J c (Append q) a e = absurd (let z : Writes (replied_of q) (lock_record J c) ≡ Answers (Ok a) =
    past_ok (nat_lt capacity (used_of J + need_of K J (lock_record J c))) (Full (used_of J) (need_of K J (lock_record J c)) capacity)
    (Writes (replied_of q) (lock_record J c)) a (past_ok (nat_lt last_early q.at) (ClockEnd q.at)
    (if_room (used_of J) (need_of K J (lock_record J c)) capacity (Writes (replied_of q) (lock_record J c))) a e) in cc)

pub stamp_wrote : (p : Plan ℕ) (what : Record) (a : ℕ) (r : Record) → stamp_by p what ≡ Writes a r → (p ≡ Append a) × (r ≡ what)
stamp_wrote (Kept t) what a r e = absurd (let z : Answers (Ok t) ≡ Writes a r = e in cc)
stamp_wrote (Refuse why) what a r e = absurd (let z : Answers (Err (Refuses why)) ≡ Writes a r = e in cc)
stamp_wrote (Append t) what a r e = let w = writes_same t a what r (past (nat_lt last_late t) (Err (ClockEnd t)) (Writes t what) a r e) in
    (ap (λ n. Append n) (sym w.0), w.1)

pub stamp_kept : (p : Plan ℕ) (what : Record) (a : ℕ) → stamp_by p what ≡ Answers (Ok a) → p ≡ Kept a
stamp_kept (Kept t) what a e = ap (λ n. Kept n) (sym (answers_same t a e))
stamp_kept (Refuse why) what a e = absurd (let z : err {A = ℕ} (Refuses why) ≡ Answers (Ok a) = e in cc)
stamp_kept (Append t) what a e = absurd (let z : Writes t what ≡ Answers (Ok a) = past_ok (nat_lt last_late t) (ClockEnd t) (Writes t what) a e in cc)

-- plans
passed : {A : Type 0} (b : Bool) (why : Refused) (p q : Plan A) → ((w : Refused) → Refuse w ≡ q → ⊥) → (if b then Refuse why else p) ≡ q
    → (b ≡ false) × (p ≡ q)
passed true why p q bad e = absurd (bad why e)
passed false why p q bad e = (refl, e)

not_append : {A : Type 0} (a : A) (w : Refused) → Refuse w ≡ Append a → ⊥
not_append a w e = cc

not_kept : {A : Type 0} (a : A) (w : Refused) → Refuse w ≡ Kept a → ⊥
not_kept a w e = cc

append_same : {A : Type 0} (a b : A) → Append a ≡ Append b → b ≡ a
append_same a b e = cc

kept_same : {A : Type 0} (a b : A) → Kept a ≡ Kept b → b ≡ a
kept_same a b e = cc

again_no_append : (d : Option ℕ) (J : List Record) (b : Batch) (q : RepliesAt) → lock_again d J b ≡ Append q → ⊥
again_no_append (Some at) J b q e = not_append q (OtherPart at) e
again_no_append None J b q e = let z : Kept (record { given = replies (lock_of J b); at = stamp_in (record_of 2 J b) }) ≡ Append q = e in cc

choose : {A : Type 0} (c : Bool) (x y q : Plan A) → (x ≡ q → ⊥) → (if c then x else y) ≡ q → (c ≡ false) × (y ≡ q)
choose true x y q bad e = absurd (bad e)
choose false x y q bad e = (refl, e)

-- the tests of the plans
abbrev is_stale : List Record → Batch → Bool
is_stale J b = nat_lt b.number (slot J b.lane).number || ((b.number == (slot J b.lane).number) && is_idle (slot J b.lane).phase)

abbrev lock_append : List Record → Batch → List Entry → ℕ → Plan RepliesAt
lock_append J b part cause = Append (record { given = replies (answered J b [] part); at = next_stamp J cause })

abbrev lock_early : List Record → Batch → List Entry → ℕ → Plan RepliesAt
lock_early J b part cause = if not (nat_lt (slot_stamp J b.lane) cause) then Refuse (EarlyStamp (slot_stamp J b.lane)) else lock_append J b part cause

abbrev lock_open : List Record → Batch → List Entry → ℕ → Plan RepliesAt
lock_open J b part cause = if not (is_idle (slot J b.lane).phase) then Refuse (LaneOpen (slot J b.lane).number) else lock_early J b part cause

abbrev lock_same : List Record → Batch → List Entry → Plan RepliesAt
lock_same J b part = lock_again (difference same_entry (entries (lock_of J b)) part) J b

abbrev lock_next : List Record → Batch → List Entry → ℕ → Plan RepliesAt
lock_next J b part cause = if b.number == (slot J b.lane).number then lock_same J b part else lock_open J b part cause

-- a new Lock is of a batch that the shard doesn't have
pub lock_new : (J : List Record) (b : Batch) (part : List Entry) (cause : ℕ) (q : RepliesAt) → next_lock J b part cause ≡ Append q
    → ((b.number == (slot J b.lane).number) ≡ false) × (q ≡ record { given = replies (answered J b [] part); at = next_stamp J cause })
lock_new J b part cause q e =
    let s1 = passed (is_stale J b) (Stale (slot J b.lane).number) (lock_next J b part cause) (Append q) (not_append q) e in
    let s2 = choose (b.number == (slot J b.lane).number) (lock_same J b part) (lock_open J b part cause) (Append q)
    (again_no_append (difference same_entry (entries (lock_of J b)) part) J b q) s1.1 in
    let s3 = passed (not (is_idle (slot J b.lane).phase)) (LaneOpen (slot J b.lane).number) (lock_early J b part cause) (Append q) (not_append q)
    s2.1 in
    let s4 = passed (not (nat_lt (slot_stamp J b.lane) cause)) (EarlyStamp (slot_stamp J b.lane)) (lock_append J b part cause) (Append q)
    (not_append q) s3.1 in
    (s2.0, append_same (record { given = replies (answered J b [] part); at = next_stamp J cause }) q s4.1)

or_false : (x y : Bool) → (x || (true && y)) ≡ false → y ≡ false
or_false x y h = grind (arith, h)

stored : (d : Option ℕ) (J : List Record) (b : Batch) (q : RepliesAt) → lock_again d J b ≡ Kept q
    → (d ≡ None) × (q ≡ record { given = replies (lock_of J b); at = stamp_in (record_of 2 J b) })
stored (Some at) J b q e = absurd (not_kept q (OtherPart at) e)
stored None J b q e = (refl, kept_same (record { given = replies (lock_of J b); at = stamp_in (record_of 2 J b) }) q e)

-- a stored one is of the lane's open batch
pub lock_stored : (J : List Record) (b : Batch) (part : List Entry) (cause : ℕ) (q : RepliesAt) → next_lock J b part cause ≡ Kept q
    → ((b.number == (slot J b.lane).number) ≡ true) × (is_idle (slot J b.lane).phase ≡ false)
    × (difference same_entry (entries (lock_of J b)) part ≡ None)
    × (q ≡ record { given = replies (lock_of J b); at = stamp_in (record_of 2 J b) })
lock_stored J b part cause q e =
    let s1 = passed (is_stale J b) (Stale (slot J b.lane).number) (lock_next J b part cause) (Kept q) (not_kept q) e in
    go (b.number == (slot J b.lane).number) refl s1.1 s1.0
  where
    go : (c : Bool) → (b.number == (slot J b.lane).number) ≡ c
        → (if c then lock_again (difference same_entry (entries (lock_of J b)) part) J b else lock_open J b part cause) ≡ Kept q
        → (nat_lt b.number (slot J b.lane).number || (c && is_idle (slot J b.lane).phase)) ≡ false
        → ((b.number == (slot J b.lane).number) ≡ true) × (is_idle (slot J b.lane).phase ≡ false)
        × (difference same_entry (entries (lock_of J b)) part ≡ None)
        × (q ≡ record { given = replies (lock_of J b); at = stamp_in (record_of 2 J b) })
    go true t e h = let s = stored (difference same_entry (entries (lock_of J b)) part) J b q e in
        (t, or_false (nat_lt b.number (slot J b.lane).number) (is_idle (slot J b.lane).phase) h, s.0, s.1)
    go false t e h =
        let s3 = passed (not (is_idle (slot J b.lane).phase)) (LaneOpen (slot J b.lane).number) (lock_early J b part cause) (Kept q) (not_kept q) e in
        let s4 = passed (not (nat_lt (slot_stamp J b.lane) cause)) (EarlyStamp (slot_stamp J b.lane)) (lock_append J b part cause) (Kept q)
        (not_kept q) s3.1 in
        absurd (let z : lock_append J b part cause ≡ Kept q = s4.1 in cc)

-- Finish
abbrev finish_rest : List Record → Batch → List Bool → ℕ → Plan ℕ
finish_rest J b ds cause = if nat_lt (slot J b.lane).number b.number then Refuse (NotLocked (slot J b.lane).number)
    else finish_in (slot J b.lane).phase J b ds cause

abbrev forget_rest : List Record → Batch → ℕ → Plan ℕ
forget_rest J b cause = if nat_lt (slot J b.lane).number b.number then Refuse (NotLocked (slot J b.lane).number)
    else forget_in (slot J b.lane).phase J b cause

pub finish_new : (J : List Record) (b : Batch) (ds : List Bool) (cause t : ℕ) → next_finish J b ds cause ≡ Append t
    → ((slot J b.lane).phase ≡ InLock) × (t ≡ next_stamp J cause)
finish_new J b ds cause t e =
    let s1 = passed (is_stale J b) (Stale (slot J b.lane).number) (finish_rest J b ds cause) (Append t) (not_append t) e in
    let s2 = passed (nat_lt (slot J b.lane).number b.number) (NotLocked (slot J b.lane).number) (finish_in (slot J b.lane).phase J b ds cause)
    (Append t) (not_append t) s1.1 in
    go (slot J b.lane).phase s2.1
  where
    now : (m : Option ℕ) → finish_now m J b.lane cause ≡ Append t → t ≡ next_stamp J cause
    now (Some at) e = absurd (not_append t (OtherOutcome at) e)
    now None e = append_same (next_stamp J cause) t
        (passed (not (nat_lt (slot_stamp J b.lane) cause)) (EarlyStamp (slot_stamp J b.lane)) (Append (next_stamp J cause)) (Append t) (not_append t)
        e).1

    again : (d : Option ℕ) → finish_again d J b ≡ Append t → ⊥
    again (Some at) e = not_append t (OtherOutcome at) e
    again None e = let z : Kept (stamp_in (record_of 3 J b)) ≡ Append t = e in cc

    go : (p : Phase) → finish_in p J b ds cause ≡ Append t → (p ≡ InLock) × (t ≡ next_stamp J cause)
    go InLock e = (refl, now (misfit (lock_of J b) ds) e)
    go InFinish e = absurd (again (difference same_decision (decisions_in (record_of 3 J b)) ds) e)
    go Idle e = absurd (not_append t (NotLocked (slot J b.lane).number) e)
    go InPrepare e = absurd (not_append t (NotLocked (slot J b.lane).number) e)
    go InCommit e = absurd (not_append t (NotLocked (slot J b.lane).number) e)
    go InDiscard e = absurd (not_append t (NotLocked (slot J b.lane).number) e)

pub record FinishStored (J : List Record) (b : Batch) (ds : List Bool) (t : ℕ) : Type 0 where
  pub number : (slot J b.lane).number ≡ b.number
  pub phase : (slot J b.lane).phase ≡ InFinish
  pub same : difference same_decision (decisions_in (record_of 3 J b)) ds ≡ None
  pub stamp : t ≡ stamp_in (record_of 3 J b)

between : (n m : ℕ) (a : Bool) → (nat_lt n m || a) ≡ false → nat_lt m n ≡ false → m ≡ n
between n m a h g = grind (arith, h, g)

pub finish_stored : (J : List Record) (b : Batch) (ds : List Bool) (cause t : ℕ) → next_finish J b ds cause ≡ Kept t → FinishStored J b ds t
finish_stored J b ds cause t e =
    let s1 = passed (is_stale J b) (Stale (slot J b.lane).number) (finish_rest J b ds cause) (Kept t) (not_kept t) e in
    let s2 = passed (nat_lt (slot J b.lane).number b.number) (NotLocked (slot J b.lane).number) (finish_in (slot J b.lane).phase J b ds cause)
    (Kept t) (not_kept t) s1.1 in
    let g = go (slot J b.lane).phase s2.1 in
    record {
      number = between b.number (slot J b.lane).number ((b.number == (slot J b.lane).number) && is_idle (slot J b.lane).phase) s1.0 s2.0;
      phase = g.0;
      same = g.1;
      stamp = g.2;
    }
  where
    now : (m : Option ℕ) → finish_now m J b.lane cause ≡ Kept t → ⊥
    now (Some at) e = not_kept t (OtherOutcome at) e
    now None e = let z : Append (next_stamp J cause) ≡ Kept t =
        (passed (not (nat_lt (slot_stamp J b.lane) cause)) (EarlyStamp (slot_stamp J b.lane)) (Append (next_stamp J cause)) (Kept t) (not_kept t)
        e).1 in cc

    again : (d : Option ℕ) → finish_again d J b ≡ Kept t → (d ≡ None) × (t ≡ stamp_in (record_of 3 J b))
    again (Some at) e = absurd (not_kept t (OtherOutcome at) e)
    again None e = (refl, kept_same (stamp_in (record_of 3 J b)) t e)

    go : (p : Phase) → finish_in p J b ds cause ≡ Kept t
        → (p ≡ InFinish) × (difference same_decision (decisions_in (record_of 3 J b)) ds ≡ None) × (t ≡ stamp_in (record_of 3 J b))
    go InLock e = absurd (now (misfit (lock_of J b) ds) e)
    go InFinish e = let a = again (difference same_decision (decisions_in (record_of 3 J b)) ds) e in (refl, a.0, a.1)
    go Idle e = absurd (not_kept t (NotLocked (slot J b.lane).number) e)
    go InPrepare e = absurd (not_kept t (NotLocked (slot J b.lane).number) e)
    go InCommit e = absurd (not_kept t (NotLocked (slot J b.lane).number) e)
    go InDiscard e = absurd (not_kept t (NotLocked (slot J b.lane).number) e)

-- Forget
pub forget_new : (J : List Record) (b : Batch) (cause t : ℕ) → next_forget J b cause ≡ Append t
    → ((slot J b.lane).phase ≡ InFinish) × (t ≡ next_stamp J cause)
forget_new J b cause t e =
    let s1 = passed (nat_lt b.number (slot J b.lane).number) (Stale (slot J b.lane).number) (forget_rest J b cause) (Append t) (not_append t) e in
    let s2 = passed (nat_lt (slot J b.lane).number b.number) (NotLocked (slot J b.lane).number) (forget_in (slot J b.lane).phase J b cause)
    (Append t) (not_append t) s1.1 in
    go (slot J b.lane).phase s2.1
  where
    go : (p : Phase) → forget_in p J b cause ≡ Append t → (p ≡ InFinish) × (t ≡ next_stamp J cause)
    go InFinish e = (
      refl,
      append_same (next_stamp J cause) t (passed (not (nat_lt (slot_stamp J b.lane) cause)) (EarlyStamp (slot_stamp J b.lane))
          (Append (next_stamp J cause)) (Append t) (not_append t) e).1,
    )
    go Idle e = absurd (let z : Kept (slot_stamp J b.lane) ≡ Append t = e in cc)
    go InLock e = absurd (not_append t (NotFinished b.number) e)
    go InPrepare e = absurd (not_append t (NotFinished b.number) e)
    go InCommit e = absurd (not_append t (NotFinished b.number) e)
    go InDiscard e = absurd (not_append t (NotFinished b.number) e)

pub record ForgetStored (J : List Record) (b : Batch) (t : ℕ) : Type 0 where
  pub number : (slot J b.lane).number ≡ b.number
  pub phase : (slot J b.lane).phase ≡ Idle
  pub stamp : t ≡ slot_stamp J b.lane

pub forget_stored : (J : List Record) (b : Batch) (cause t : ℕ) → next_forget J b cause ≡ Kept t → ForgetStored J b t
forget_stored J b cause t e =
    let s1 = passed (nat_lt b.number (slot J b.lane).number) (Stale (slot J b.lane).number) (forget_rest J b cause) (Kept t) (not_kept t) e in
    let s2 = passed (nat_lt (slot J b.lane).number b.number) (NotLocked (slot J b.lane).number) (forget_in (slot J b.lane).phase J b cause) (Kept t)
    (not_kept t) s1.1 in
    let g = go (slot J b.lane).phase s2.1 in
    record { number = neither b.number (slot J b.lane).number s1.0 s2.0; phase = g.0; stamp = g.1 }
  where
    neither : (n m : ℕ) → nat_lt n m ≡ false → nat_lt m n ≡ false → m ≡ n
    neither n m h g = grind (arith, h, g)

    go : (p : Phase) → forget_in p J b cause ≡ Kept t → (p ≡ Idle) × (t ≡ slot_stamp J b.lane)
    go Idle e = (refl, kept_same (slot_stamp J b.lane) t e)
    go InFinish e = absurd (let z : Append (next_stamp J cause) ≡ Kept t =
        (passed (not (nat_lt (slot_stamp J b.lane) cause)) (EarlyStamp (slot_stamp J b.lane)) (Append (next_stamp J cause)) (Kept t) (not_kept t)
        e).1 in cc)
    go InLock e = absurd (not_kept t (NotFinished b.number) e)
    go InPrepare e = absurd (not_kept t (NotFinished b.number) e)
    go InCommit e = absurd (not_kept t (NotFinished b.number) e)
    go InDiscard e = absurd (not_kept t (NotFinished b.number) e)

-- no plan of its own says that a node is broken
pub lock_unbroken : (K : Shape) (capacity : ℕ) (J : List Record) (c : LockCall) (p : Plan RepliesAt) (s : ℕ)
    → lock_by p K capacity J c ≡ Answers (Err (Broken s)) → ⊥
lock_unbroken K capacity J c (Kept q) s e = let z : ok (replied_of q) ≡ err (Broken s) = e in cc
lock_unbroken K capacity J c (Refuse why) s e = let z : err {A = Replied} (Refuses why) ≡ err (Broken s) = e in cc
lock_unbroken K capacity J c (Append q) s e = two (nat_lt last_early q.at) (nat_lt capacity (used_of J + need_of K J (lock_record J c))) e
  where
    two : (x y : Bool) → (if x then Answers (Err (ClockEnd q.at))
        else (if y then Answers (Err (Full (used_of J) (need_of K J (lock_record J c)) capacity)) else Writes (replied_of q) (lock_record J c)))
        ≡ Answers (Err (Broken s)) → ⊥
    two true y e = let z : err {A = Replied} (ClockEnd q.at) ≡ err (Broken s) = e in cc
    two false true e = let z : err {A = Replied} (Full (used_of J) (need_of K J (lock_record J c)) capacity) ≡ err (Broken s) = e in cc
    two false false e = let z : Writes (replied_of q) (lock_record J c) ≡ err (Broken s) = e in cc

pub late_unbroken : {A : Type 0} (stamp : ℕ) (a : A) (r : Record) (s : ℕ) → if_early last_late stamp (Writes a r) ≡ Answers (Err (Broken s)) → ⊥
late_unbroken {A = A} stamp a r s e = one (nat_lt last_late stamp) e
  where
    one : (x : Bool) → (if x then Answers (Err (ClockEnd stamp)) else Writes a r) ≡ Answers (Err (Broken s)) → ⊥
    one true e = let z : err {A = A} (ClockEnd stamp) ≡ err (Broken s) = e in cc
    one false e = let z : Writes a r ≡ err (Broken s) = e in cc

pub stamp_unbroken : (p : Plan ℕ) (what : Record) (s : ℕ) → stamp_by p what ≡ Answers (Err (Broken s)) → ⊥
stamp_unbroken (Kept t) what s e = let z : ok t ≡ err (Broken s) = e in cc
stamp_unbroken (Refuse why) what s e = let z : err {A = ℕ} (Refuses why) ≡ err (Broken s) = e in cc
stamp_unbroken (Append t) what s e = late_unbroken t t what s e

-- calls whose room is kept don't answer Full, and not ClockEnd below the last stamp
pub late_full : {A : Type 0} (stamp : ℕ) (a : A) (r : Record) (used need capacity : ℕ)
    → if_early last_late stamp (Writes a r) ≡ Answers (Err (Full used need capacity)) → ⊥
late_full {A = A} stamp a r used need capacity e = one (nat_lt last_late stamp) e
  where
    one : (x : Bool) → (if x then Answers (Err (ClockEnd stamp)) else Writes a r) ≡ Answers (Err (Full used need capacity)) → ⊥
    one true e = let z : err {A = A} (ClockEnd stamp) ≡ err (Full used need capacity) = e in cc
    one false e = let z : Writes a r ≡ err (Full used need capacity) = e in cc

pub stamp_full : (p : Plan ℕ) (what : Record) (used need capacity : ℕ) → stamp_by p what ≡ Answers (Err (Full used need capacity)) → ⊥
stamp_full (Kept t) what used need capacity e = let z : ok t ≡ err (Full used need capacity) = e in cc
stamp_full (Refuse why) what used need capacity e = let z : err {A = ℕ} (Refuses why) ≡ err (Full used need capacity) = e in cc
stamp_full (Append t) what used need capacity e = late_full t t what used need capacity e

pub late_end : {A : Type 0} (stamp : ℕ) (a : A) (r : Record) (end : ℕ) → if_early last_late stamp (Writes a r) ≡ Answers (Err (ClockEnd end))
    → 2 ^ 62 + 2 ^ 20 < end
late_end {A = A} stamp a r end e = one (nat_lt last_late stamp) refl e
  where
    above : (x : ℕ) → nat_lt last_late x ≡ true → last_late < x
    above x h = grind (arith, h)

    one : (x : Bool) → nat_lt last_late stamp ≡ x → (if x then Answers (Err (ClockEnd stamp)) else Writes a r) ≡ Answers (Err (ClockEnd end))
        → 2 ^ 62 + 2 ^ 20 < end
    one true h e = let z : err {A = A} (ClockEnd stamp) ≡ err (ClockEnd end) = e in let s : stamp ≡ end = cc in
        subst (λ n. last_late < n) s (above stamp h)
    one false h e = absurd (let z : Writes a r ≡ err (ClockEnd end) = e in cc)

pub stamp_end : (p : Plan ℕ) (what : Record) (end : ℕ) → stamp_by p what ≡ Answers (Err (ClockEnd end)) → 2 ^ 62 + 2 ^ 20 < end
stamp_end (Kept t) what end e = absurd (let z : ok t ≡ err (ClockEnd end) = e in cc)
stamp_end (Refuse why) what end e = absurd (let z : err {A = ℕ} (Refuses why) ≡ err (ClockEnd end) = e in cc)
stamp_end (Append t) what end e = late_end t t what end e

-- a coordinator's calls have no stored answers
pub late_wrote : {A : Type 0} (stamp : ℕ) (a b : A) (r q : Record) → if_early last_late stamp (Writes a r) ≡ Writes b q → (b ≡ a) × (q ≡ r)
late_wrote stamp a b r q e = writes_same a b r q (past (nat_lt last_late stamp) (Err (ClockEnd stamp)) (Writes a r) b q e)

pub late_stored : {A : Type 0} (stamp : ℕ) (a b : A) (r : Record) → if_early last_late stamp (Writes a r) ≡ Answers (Ok b) → ⊥
late_stored stamp a b r e = let z : Writes a r ≡ ok b = past_ok (nat_lt last_late stamp) (ClockEnd stamp) (Writes a r) b e in cc
