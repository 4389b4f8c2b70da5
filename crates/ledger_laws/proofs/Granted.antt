-- What the answers to a call are, by the function that plans them.
use Rattle.std.proofs.Common.{◌≡◌, ◌⊎◌, inl, inr, ℕ, ◌<◌, Bool, true, false, ◌&&◌, ◌||◌, not, ◌==◌, nat_lt, if◌then◌else◌, List, [], ◌∷◌, Option}
use Rattle.std.proofs.Common.{Some, None, refl, sym, ap, subst, arith}
use Rattle.cbdc_model.specs.Records.{Batch, Entry, Answered, Record, is_held, record_of, decisions_in, lock_of}
use Rattle.cbdc_model.specs.Slots.{Phase, slot, slot_stamp, Idle, InLock, InFinish}
use Rattle.cbdc_model.specs.Replies.{entries}
use Rattle.cbdc_model.specs.Next.{Plan, is_idle, lock_again, next_lock, finish_again, finish_now, finish_in, next_finish, forget_in, next_forget}
use Rattle.cbdc_model.specs.Next.{misfit, difference, same_entry, same_decision}
use Rattle.cbdc_model.specs.After.{FitsReplies}
use Rattle.ledger_laws.specs.Laws.{IsGranted}
use Rattle.ledger_laws.proofs.Answered.{IsStale, LockAnswered, FinishAnswered, ForgetAnswered, lock_stale, lock_stored, lock_appends, finish_stale}
use Rattle.ledger_laws.proofs.Answered.{finish_stored, finish_appends, forget_stale, forget_stored, forget_appends}
use Rattle.ledger_laws.proofs.Equality.{same_entry_self, same_decision_self}

granted_if : {A : Type 0} (c : Bool) (one other : Plan A) → (c ≡ true → IsGranted one) → (c ≡ false → IsGranted other)
    → IsGranted (if c then one else other)
granted_if true one other h g = h refl
granted_if false one other h g = g refl

-- lists that are the same do not differ
difference_self : {A : Type 0} (same : A → A → Bool) → ((a : A) → same a a ≡ true) → (xs : List A) → difference same xs xs ≡ None
difference_self same self [] = refl
difference_self same self (x ∷ xs) = rw (self x, difference_self same self xs)

-- tests
stale_test : (m n : ℕ) (c : Bool) → (nat_lt m n || ((m == n) && c)) ≡ false → (m < n) ⊎ ((n ≡ m) × (c ≡ true)) → ⊥
stale_test m n c h (inl lt) = grind arith
stale_test m n c h (inr (e, i)) = grind arith

is_stale : (J : List Record) (b : Batch) → (nat_lt b.number (slot J b.lane).number
    || ((b.number == (slot J b.lane).number) && is_idle (slot J b.lane).phase)) ≡ false → IsStale J b → ⊥
is_stale J b h (inl lt) = stale_test b.number (slot J b.lane).number (is_idle (slot J b.lane).phase) h (inl lt)
is_stale J b h (inr (e, i)) = stale_test b.number (slot J b.lane).number (is_idle (slot J b.lane).phase) h (inr (e, ap is_idle i))

equal_test : (m n : ℕ) → (m == n) ≡ true → n < m → ⊥
equal_test m n h lt = grind arith

differ_test : (m n : ℕ) → (m == n) ≡ false → n ≡ m → ⊥
differ_test m n h e = grind arith

below_test : (m n : ℕ) → nat_lt m n ≡ true → m ≡ n → ⊥
below_test m n h e = grind arith

late_test : (m n : ℕ) → not (nat_lt m n) ≡ true → m < n → ⊥
late_test m n h lt = grind arith

not_idle : (ph : Phase) → not (is_idle ph) ≡ true → ph ≡ Idle → ⊥
not_idle ph h e = let k : not (is_idle Idle) ≡ true = subst (λ p. not (is_idle p) ≡ true) e h in let z : false ≡ true = k in cc

-- Lock
again_granted : (d : Option ℕ) (J : List Record) (b : Batch) → d ≡ None → IsGranted (lock_again d J b)
again_granted None J b e = tt
again_granted (Some at) J b e = absurd (let z : Some at ≡ None = e in cc)

module _ (J : List Record) (b : Batch) where
  pub lock_granted : (part : List Entry) (cause : ℕ) → LockAnswered J b part cause → IsGranted (next_lock J b part cause)
  lock_granted part cause a =
      granted_if (nat_lt b.number (slot J b.lane).number || ((b.number == (slot J b.lane).number) && is_idle (slot J b.lane).phase)) _ _ (λ _. tt)
      (λ one.
      granted_if (b.number == (slot J b.lane).number) _ _
      (λ two. again_granted (difference same_entry (entries (lock_of J b)) part) J b (same_part one two a)) (λ two.
      granted_if (not (is_idle (slot J b.lane).phase)) _ _ (λ three. absurd (open_lane one two three a)) (λ three.
      granted_if (not (nat_lt (slot_stamp J b.lane) cause)) _ _ (λ four. absurd (early one two four a)) (λ four. tt))))
    where
      same_part : (nat_lt b.number (slot J b.lane).number || ((b.number == (slot J b.lane).number) && is_idle (slot J b.lane).phase)) ≡ false
          → (b.number == (slot J b.lane).number) ≡ true
          → LockAnswered J b part cause → difference same_entry (entries (lock_of J b)) part ≡ None
      same_part one two (lock_stale s) = absurd (is_stale J b one s)
      same_part one two (lock_stored n e) = subst (λ p. difference same_entry (entries (lock_of J b)) p ≡ None) e
          (difference_self same_entry same_entry_self (entries (lock_of J b)))
      same_part one two (lock_appends lt i c) = absurd (equal_test b.number (slot J b.lane).number two lt)

      open_lane : (nat_lt b.number (slot J b.lane).number || ((b.number == (slot J b.lane).number) && is_idle (slot J b.lane).phase)) ≡ false
          → (b.number == (slot J b.lane).number) ≡ false
          → not (is_idle (slot J b.lane).phase) ≡ true → LockAnswered J b part cause → ⊥
      open_lane one two three (lock_stale s) = is_stale J b one s
      open_lane one two three (lock_stored n e) = differ_test b.number (slot J b.lane).number two n
      open_lane one two three (lock_appends lt i c) = not_idle (slot J b.lane).phase three i

      early : (nat_lt b.number (slot J b.lane).number || ((b.number == (slot J b.lane).number) && is_idle (slot J b.lane).phase)) ≡ false
          → (b.number == (slot J b.lane).number) ≡ false
          → not (nat_lt (slot_stamp J b.lane) cause) ≡ true → LockAnswered J b part cause → ⊥
      early one two four (lock_stale s) = is_stale J b one s
      early one two four (lock_stored n e) = differ_test b.number (slot J b.lane).number two n
      early one two four (lock_appends lt i c) = late_test (slot_stamp J b.lane) cause four c

-- Finish
finish_again_granted : (d : Option ℕ) (J : List Record) (b : Batch) → d ≡ None → IsGranted (finish_again d J b)
finish_again_granted None J b e = tt
finish_again_granted (Some at) J b e = absurd (let z : Some at ≡ None = e in cc)

finish_now_granted : (m : Option ℕ) (J : List Record) (lane cause : ℕ) → m ≡ None → slot_stamp J lane < cause → IsGranted (finish_now m J lane cause)
finish_now_granted (Some at) J lane cause e lt = absurd (let z : Some at ≡ None = e in cc)
finish_now_granted None J lane cause e lt = granted_if (not (nat_lt (slot_stamp J lane) cause)) _ _
    (λ h. absurd (late_test (slot_stamp J lane) cause h lt)) (λ _. tt)

fits_none : (es : List Answered) (ds : List Bool) → FitsReplies es ds → misfit es ds ≡ None
fits_none [] [] f = refl
fits_none [] (d ∷ ds) f = absurd f
fits_none (a ∷ es) [] f = absurd f
fits_none (a ∷ es) (d ∷ ds) f = rw (fits d (is_held a.reply) f.0, fits_none es ds f.1)
  where
    fits : (d c : Bool) → (d ≡ true → c ≡ true) → (d && not c) ≡ false
    fits true c h = rw (h refl)
    fits false c h = refl

module _ (J : List Record) (b : Batch) (ds : List Bool) (cause : ℕ) where
  in_finish : (ph : Phase) → ph ≡ InFinish → decisions_in (record_of 3 J b) ≡ ds → IsGranted (finish_in ph J b ds cause)
  in_finish ph e same = subst (λ p. IsGranted (finish_in p J b ds cause)) (sym e) (
      finish_again_granted (difference same_decision (decisions_in (record_of 3 J b)) ds) J b
      (subst (λ d. difference same_decision (decisions_in (record_of 3 J b)) d ≡ None) same
      (difference_self same_decision same_decision_self (decisions_in (record_of 3 J b)))))

  in_lock : (ph : Phase) → ph ≡ InLock → FitsReplies (lock_of J b) ds → slot_stamp J b.lane < cause → IsGranted (finish_in ph J b ds cause)
  in_lock ph e fits lt = subst (λ p. IsGranted (finish_in p J b ds cause)) (sym e)
      (finish_now_granted (misfit (lock_of J b) ds) J b.lane cause (fits_none (lock_of J b) ds fits) lt)

  pub finish_granted : FinishAnswered J b ds cause → IsGranted (next_finish J b ds cause)
  finish_granted a =
      granted_if (nat_lt b.number (slot J b.lane).number || ((b.number == (slot J b.lane).number) && is_idle (slot J b.lane).phase)) _ _ (λ _. tt)
      (λ one.
      granted_if (nat_lt (slot J b.lane).number b.number) _ _ (λ two. absurd (not_locked one two a)) (λ two. by_phase one a))
    where
      not_locked : (nat_lt b.number (slot J b.lane).number || ((b.number == (slot J b.lane).number) && is_idle (slot J b.lane).phase)) ≡ false
          → nat_lt (slot J b.lane).number b.number ≡ true
          → FinishAnswered J b ds cause → ⊥
      not_locked one two (finish_stale s) = is_stale J b one s
      not_locked one two (finish_stored n p e) = below_test (slot J b.lane).number b.number two n
      not_locked one two (finish_appends n p f c) = below_test (slot J b.lane).number b.number two n

      by_phase : (nat_lt b.number (slot J b.lane).number || ((b.number == (slot J b.lane).number) && is_idle (slot J b.lane).phase)) ≡ false
          → FinishAnswered J b ds cause → IsGranted (finish_in (slot J b.lane).phase J b ds cause)
      by_phase one (finish_stale s) = absurd (is_stale J b one s)
      by_phase one (finish_stored n p e) = in_finish (slot J b.lane).phase p e
      by_phase one (finish_appends n p f c) = in_lock (slot J b.lane).phase p f c

-- Forget
module _ (J : List Record) (b : Batch) (cause : ℕ) where
  forget_idle : (ph : Phase) → ph ≡ Idle → IsGranted (forget_in ph J b cause)
  forget_idle ph e = subst (λ p. IsGranted (forget_in p J b cause)) (sym e) tt

  forget_finished : (ph : Phase) → ph ≡ InFinish → slot_stamp J b.lane < cause → IsGranted (forget_in ph J b cause)
  forget_finished ph e lt = subst (λ p. IsGranted (forget_in p J b cause)) (sym e) (
      granted_if (not (nat_lt (slot_stamp J b.lane) cause)) _ _ (λ h. absurd (late_test (slot_stamp J b.lane) cause h lt)) (λ _. tt))

  pub forget_granted : ForgetAnswered J b cause → IsGranted (next_forget J b cause)
  forget_granted a =
      granted_if (nat_lt b.number (slot J b.lane).number) _ _ (λ _. tt) (λ one.
      granted_if (nat_lt (slot J b.lane).number b.number) _ _ (λ two. absurd (not_locked one two a)) (λ two. by_phase one a))
    where
      at_least : (m n : ℕ) → nat_lt m n ≡ false → m < n → ⊥
      at_least m n h lt = grind arith

      not_locked : nat_lt b.number (slot J b.lane).number ≡ false → nat_lt (slot J b.lane).number b.number ≡ true → ForgetAnswered J b cause → ⊥
      not_locked one two (forget_stale s) = at_least b.number (slot J b.lane).number one s
      not_locked one two (forget_stored n p) = below_test (slot J b.lane).number b.number two n
      not_locked one two (forget_appends n p c) = below_test (slot J b.lane).number b.number two n

      by_phase : nat_lt b.number (slot J b.lane).number ≡ false → ForgetAnswered J b cause → IsGranted (forget_in (slot J b.lane).phase J b cause)
      by_phase one (forget_stale s) = absurd (at_least b.number (slot J b.lane).number one s)
      by_phase one (forget_stored n p) = forget_idle (slot J b.lane).phase p
      by_phase one (forget_appends n p c) = forget_finished (slot J b.lane).phase p c
