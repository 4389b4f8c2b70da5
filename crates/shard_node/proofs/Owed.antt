-- What a shard owes to a call, by what its core plans.
use Rattle.std.proofs.Common.{◌≡◌, ℕ, ◌+◌, ◌^◌, ◌≤◌, ◌<◌, true, false, nat_lt, List, Option, Some, None, Ok, Err, refl, sym, ◌∙◌, ap, arith}
use Rattle.std.proofs.lemmas.Bool.Decides.{nat_tests}
use Rattle.cbdc_types.specs.declared.calls.LockCall.{LockCall}
use Rattle.cbdc_types.specs.declared.calls.FinishCall.{FinishCall}
use Rattle.cbdc_types.specs.declared.calls.ForgetCall.{ForgetCall}
use Rattle.cbdc_types.specs.declared.calls.Refused.{Refused}
use Rattle.cbdc_types.specs.declared.calls.Replied.{Replied}
use Rattle.cbdc_types.specs.declared.calls.NodeFault.TheVariants.{Broken, Refused as Refuses, ClockEnd, Full}
use Rattle.cbdc_model.specs.Records.{Shape, Record, Finish, Forget}
use Rattle.cbdc_model.specs.Next.{Plan, RepliesAt, Kept, Append, Refuse, next_lock, next_finish, next_forget, next_stamp}
use Rattle.cbdc_model.specs.Room.{need_of}
use Rattle.cbdc_model.specs.Due.{Due, Answers, Writes, unless_broken, if_early, if_room, stamp_by, lock_by, lock_record, lock_due, finish_due}
use Rattle.cbdc_model.specs.Due.{forget_due, used_of, last_early, last_late}
use Rattle.shard_core.specs.Plans.{core_replies}

not_past : (bound n : ℕ) → n ≤ bound → nat_lt bound n ≡ false
not_past bound n le = grind (arith, nat_tests)

past : (bound n : ℕ) → bound < n → nat_lt bound n ≡ true
past bound n lt = grind (arith, nat_tests)

early_is : {A : Type 0} (bound n : ℕ) (due : Due A) → n ≤ bound → if_early bound n due ≡ due
early_is bound n due le = let e = not_past bound n le in rw e refl

late_is : {A : Type 0} (bound n : ℕ) (due : Due A) → bound < n → if_early bound n due ≡ Answers (Err (ClockEnd n))
late_is bound n due lt = let e = past bound n lt in rw e refl

pub finish_writes : (c : FinishCall) (J : List Record) (t : ℕ) → next_finish J c.batch c.decisions c.cause ≡ Append t → t ≡ next_stamp J c.cause
    → t ≤ 2 ^ 62 + 2 ^ 20 → finish_due c None J ≡ Writes t (Finish t c.batch c.decisions)
finish_writes c J t e is le =
    ap (λ (p : Plan ℕ). stamp_by p (Finish (next_stamp J c.cause) c.batch c.decisions)) e
    ∙ early_is last_late t (Writes t (Finish (next_stamp J c.cause) c.batch c.decisions)) le
    ∙ ap (λ (n : ℕ). Writes t (Finish n c.batch c.decisions)) (sym is)

pub finish_late : (c : FinishCall) (J : List Record) (t : ℕ) → next_finish J c.batch c.decisions c.cause ≡ Append t → 2 ^ 62 + 2 ^ 20 < t
    → finish_due c None J ≡ Answers (Err (ClockEnd t))
finish_late c J t e lt = ap (λ (p : Plan ℕ). stamp_by p (Finish (next_stamp J c.cause) c.batch c.decisions)) e
    ∙ late_is last_late t (Writes t (Finish (next_stamp J c.cause) c.batch c.decisions)) lt

pub forget_writes : (c : ForgetCall) (J : List Record) (t : ℕ) → next_forget J c.batch c.cause ≡ Append t → t ≡ next_stamp J c.cause
    → t ≤ 2 ^ 62 + 2 ^ 20 → forget_due c None J ≡ Writes t (Forget t c.batch)
forget_writes c J t e is le =
    ap (λ (p : Plan ℕ). stamp_by p (Forget (next_stamp J c.cause) c.batch)) e
    ∙ early_is last_late t (Writes t (Forget (next_stamp J c.cause) c.batch)) le ∙ ap (λ (n : ℕ). Writes t (Forget n c.batch)) (sym is)

pub forget_late : (c : ForgetCall) (J : List Record) (t : ℕ) → next_forget J c.batch c.cause ≡ Append t → 2 ^ 62 + 2 ^ 20 < t
    → forget_due c None J ≡ Answers (Err (ClockEnd t))
forget_late c J t e lt = ap (λ (p : Plan ℕ). stamp_by p (Forget (next_stamp J c.cause) c.batch)) e
    ∙ late_is last_late t (Writes t (Forget (next_stamp J c.cause) c.batch)) lt

-- a stored answer, a refusal, a broken shard
pub finish_kept : (c : FinishCall) (J : List Record) (o : Option ℕ) (t : ℕ) → o ≡ None → Kept t ≡ next_finish J c.batch c.decisions c.cause
    → finish_due c o J ≡ Answers (Ok t)
finish_kept c J o t none e = ap (λ (x : Option ℕ). finish_due c x J) none
    ∙ ap (λ (p : Plan ℕ). stamp_by p (Finish (next_stamp J c.cause) c.batch c.decisions)) (sym e)

pub finish_refused : (c : FinishCall) (J : List Record) (o : Option ℕ) (why : Refused) → o ≡ None
    → Refuse why ≡ next_finish J c.batch c.decisions c.cause → finish_due c o J ≡ Answers (Err (Refuses why))
finish_refused c J o why none e = ap (λ (x : Option ℕ). finish_due c x J) none
    ∙ ap (λ (p : Plan ℕ). stamp_by p (Finish (next_stamp J c.cause) c.batch c.decisions)) (sym e)

pub forget_kept : (c : ForgetCall) (J : List Record) (o : Option ℕ) (t : ℕ) → o ≡ None → Kept t ≡ next_forget J c.batch c.cause
    → forget_due c o J ≡ Answers (Ok t)
forget_kept c J o t none e = ap (λ (x : Option ℕ). forget_due c x J) none
    ∙ ap (λ (p : Plan ℕ). stamp_by p (Forget (next_stamp J c.cause) c.batch)) (sym e)

pub forget_refused : (c : ForgetCall) (J : List Record) (o : Option ℕ) (why : Refused) → o ≡ None → Refuse why ≡ next_forget J c.batch c.cause
    → forget_due c o J ≡ Answers (Err (Refuses why))
forget_refused c J o why none e = ap (λ (x : Option ℕ). forget_due c x J) none
    ∙ ap (λ (p : Plan ℕ). stamp_by p (Forget (next_stamp J c.cause) c.batch)) (sym e)

pub broken_answers : {A : Type 0} (o : Option ℕ) (since : ℕ) (due : Due A) → o ≡ Some since → unless_broken o due ≡ Answers (Err (Broken since))
broken_answers o since due e = ap (λ (x : Option ℕ). unless_broken x due) e

-- ---- Lock

pub lock_kept : (K : Shape) (capacity : ℕ) (c : LockCall) (J : List Record) (o : Option ℕ) (r : Replied) → o ≡ None
    → Kept (core_replies r) ≡ next_lock J c.batch c.part c.cause → lock_due K capacity c o J ≡ Answers (Ok r)
lock_kept K capacity c J o r none e = ap (λ (x : Option ℕ). lock_due K capacity c x J) none
    ∙ ap (λ (p : Plan RepliesAt). lock_by p K capacity J c) (sym e)

pub lock_refused : (K : Shape) (capacity : ℕ) (c : LockCall) (J : List Record) (o : Option ℕ) (why : Refused) → o ≡ None
    → Refuse why ≡ next_lock J c.batch c.part c.cause → lock_due K capacity c o J ≡ Answers (Err (Refuses why))
lock_refused K capacity c J o why none e = ap (λ (x : Option ℕ). lock_due K capacity c x J) none
    ∙ ap (λ (p : Plan RepliesAt). lock_by p K capacity J c) (sym e)

pub lock_late : (K : Shape) (capacity : ℕ) (c : LockCall) (J : List Record) (r : Replied)
    → next_lock J c.batch c.part c.cause ≡ Append (core_replies r) → 2 ^ 62 < r.stamp
    → lock_due K capacity c None J ≡ Answers (Err (ClockEnd r.stamp))
lock_late K capacity c J r e lt = ap (λ (p : Plan RepliesAt). lock_by p K capacity J c) e ∙ late_is last_early r.stamp _ lt

pub lock_full : (K : Shape) (capacity : ℕ) (c : LockCall) (J : List Record) (r : Replied)
    → next_lock J c.batch c.part c.cause ≡ Append (core_replies r) → r.stamp ≤ 2 ^ 62
    → capacity < used_of J + need_of K J (lock_record J c)
    → lock_due K capacity c None J ≡ Answers (Err (Full (used_of J) (need_of K J (lock_record J c)) capacity))
lock_full K capacity c J r e le lt =
    let over : nat_lt capacity (used_of J + need_of K J (lock_record J c)) ≡ true = past capacity (used_of J + need_of K J (lock_record J c)) lt in
    ap (λ (p : Plan RepliesAt). lock_by p K capacity J c) e ∙ early_is last_early r.stamp _ le ∙ full _ _ _ over
  where
    full : (used need : ℕ) (due : Due Replied) → nat_lt capacity (used + need) ≡ true
        → if_room used need capacity due ≡ Answers (Err (Full used need capacity))
    full used need due over = rw over refl

pub lock_writes : (K : Shape) (capacity : ℕ) (c : LockCall) (J : List Record) (r : Replied)
    → next_lock J c.batch c.part c.cause ≡ Append (core_replies r) → r.stamp ≤ 2 ^ 62
    → used_of J + need_of K J (lock_record J c) ≤ capacity → lock_due K capacity c None J ≡ Writes r (lock_record J c)
lock_writes K capacity c J r e le room =
    let within : nat_lt capacity (used_of J + need_of K J (lock_record J c)) ≡ false =
    not_past capacity (used_of J + need_of K J (lock_record J c)) room in
    ap (λ (p : Plan RepliesAt). lock_by p K capacity J c) e ∙ early_is last_early r.stamp _ le ∙ fits _ _ _ within
  where
    fits : (used need : ℕ) (due : Due Replied) → nat_lt capacity (used + need) ≡ false → if_room used need capacity due ≡ due
    fits used need due within = rw within refl
