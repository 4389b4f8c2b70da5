-- A record that a shard plans to append is next in its journal, and caused where the call's cause stands.
use Rattle.std.proofs.Common.{◌≡◌, ℕ, suc, ◌<◌, max, Bool, true, false, ◌&&◌, ◌||◌, not, ◌==◌, nat_lt, if◌then◌else◌, List, [], ◌∷◌, ◌++◌, Option}
use Rattle.std.proofs.Common.{Some, None, is_some, option_map, refl, sym, ap, ◌∙◌, subst, arith}
use Rattle.cbdc_model.specs.Records.{Digest, Shape, Batch, Compact, Entry, Answered, Record, is_held, record_of, last_stamp, stamp_in, txs_in}
use Rattle.cbdc_model.specs.Records.{outcomes_in, decisions_in, lock_of, Lock, Finish, Forget}
use Rattle.cbdc_model.specs.Slots.{Phase, Slot, slot, slot_stamp, Idle, InLock, InFinish, InPrepare, InCommit, InDiscard}
use Rattle.cbdc_model.specs.Replies.{answered, entries, reply_to}
use Rattle.cbdc_model.specs.Ranges.{part}
use Rattle.cbdc_model.specs.Outcomes.{decisions}
use Rattle.cbdc_model.specs.Grammar.{IsInGrammar}
use Rattle.cbdc_model.specs.Next.{Plan, is_idle, lock_again, next_lock, finish_again, finish_now, finish_in, next_finish, forget_in, next_forget}
use Rattle.cbdc_model.specs.Next.{misfit, next_stamp, difference, same_entry, same_decision}
use Rattle.cbdc_model.specs.After.{FitsReplies}
use Rattle.cbdc_model.specs.Causes.{IsCaused}
use Rattle.cbdc_model.specs.History.{header_of}
use Rattle.cbdc_model.specs.World.{ShardCall, Lock_call, Finish_call, Forget_call, appends, record_for, CauseStands}
use Rattle.ledger_laws.proofs.Next.{Next, AllProper}
use Rattle.ledger_laws.proofs.ByKind.{some_is}

none_some : {A : Type 0} (r : A) → None ≡ Some r → ⊥
none_some r e = cc

passed : {A : Type 0} (c : Bool) (first rest : Plan A) (q r : Record) → appends first q ≡ None → appends (if c then first else rest) q ≡ Some r
    → (c ≡ false) × (appends rest q ≡ Some r)
passed true first rest q r none h = absurd (none_some r (sym none ∙ h))
passed false first rest q r none h = (refl, h)

again_none : (d : Option ℕ) (J : List Record) (b : Batch) (q : Record) → appends (lock_again d J b) q ≡ None
again_none (Some at) J b q = refl
again_none None J b q = refl

idle_phase : (ph : Phase) → not (is_idle ph) ≡ false → ph ≡ Idle
idle_phase Idle h = refl
idle_phase InLock h = cc
idle_phase InFinish h = cc
idle_phase InPrepare h = cc
idle_phase InCommit h = cc
idle_phase InDiscard h = cc

above : (m n : ℕ) (c : Bool) → (nat_lt m n || ((m == n) && c)) ≡ false → (m == n) ≡ false → n < m
above m n c h e = grind arith

equal : (m n : ℕ) → nat_lt m n ≡ false → nat_lt n m ≡ false → n ≡ m
equal m n h e = grind arith

pub lock_appends : (J : List Record) (b : Batch) (part : List Entry) (cause : ℕ) (q r : Record) → appends (next_lock J b part cause) q ≡ Some r
    → (q ≡ r) × ((slot J b.lane).phase ≡ Idle) × ((slot J b.lane).number < b.number)
lock_appends J b part cause q r h =
    let s : Slot = slot J b.lane in
    let one = passed (nat_lt b.number (slot J b.lane).number || ((b.number == (slot J b.lane).number) && is_idle (slot J b.lane).phase)) _ _ q r refl
    h in
    let two = passed (b.number == (slot J b.lane).number) _ _ q r (again_none (difference same_entry (entries (lock_of J b)) part) J b q) one.1 in
    let three = passed (not (is_idle (slot J b.lane).phase)) _ _ q r refl two.1 in
    let four = passed (not (nat_lt (slot_stamp J b.lane) cause)) _ _ q r refl three.1 in
    (some_is q r four.1, idle_phase (slot J b.lane).phase three.0, above b.number (slot J b.lane).number (is_idle (slot J b.lane).phase) one.0 two.0)

-- decisions that fit
no_more : (o : Option ℕ) → option_map (λ n. suc n) o ≡ None → o ≡ None
no_more None h = refl
no_more (Some n) h = cc

pub misfit_none : (es : List Answered) (ds : List Bool) → misfit es ds ≡ None → FitsReplies es ds
misfit_none [] [] h = tt
misfit_none [] (d ∷ ds) h = absurd (none_some 0 (sym h))
misfit_none (a ∷ es) [] h = absurd (none_some 0 (sym h))
misfit_none (a ∷ es) (d ∷ ds) h = elim (d && not (is_held a.reply)) as
    (λ c. (d && not (is_held a.reply)) ≡ c → (if c then Some 0 else option_map (λ n. suc n) (misfit es ds)) ≡ None
    → (d ≡ true → is_held a.reply ≡ true) × FitsReplies es ds) [
      | true ↦ λ e h. absurd (none_some 0 (sym h))
      | false ↦ λ e h. (held d (is_held a.reply) e, misfit_none es ds (no_more (misfit es ds) h))
    ] refl h
  where
    held : (d c : Bool) → (d && not c) ≡ false → d ≡ true → c ≡ true
    held d c e t = grind arith

now_appends : (m : Option ℕ) (J : List Record) (lane cause : ℕ) (q r : Record) → appends (finish_now m J lane cause) q ≡ Some r → (m ≡ None) × (q ≡ r)
now_appends (Some at) J lane cause q r h = absurd (none_some r h)
now_appends None J lane cause q r h = (refl, some_is q r (passed (not (nat_lt (slot_stamp J lane) cause)) _ _ q r refl h).1)

finish_again_none : (d : Option ℕ) (J : List Record) (b : Batch) (q : Record) → appends (finish_again d J b) q ≡ None
finish_again_none (Some at) J b q = refl
finish_again_none None J b q = refl

in_lock : (ph : Phase) (J : List Record) (b : Batch) (ds : List Bool) (cause : ℕ) (q r : Record) → appends (finish_in ph J b ds cause) q ≡ Some r
    → (ph ≡ InLock) × (misfit (lock_of J b) ds ≡ None) × (q ≡ r)
in_lock InLock J b ds cause q r h = let n = now_appends (misfit (lock_of J b) ds) J b.lane cause q r h in (refl, n.0, n.1)
in_lock InFinish J b ds cause q r h = absurd (none_some r
    (sym (finish_again_none (difference same_decision (decisions_in (record_of 3 J b)) ds) J b q) ∙ h))
in_lock Idle J b ds cause q r h = absurd (none_some r h)
in_lock InPrepare J b ds cause q r h = absurd (none_some r h)
in_lock InCommit J b ds cause q r h = absurd (none_some r h)
in_lock InDiscard J b ds cause q r h = absurd (none_some r h)

not_below : (m n : ℕ) (c : Bool) → (nat_lt m n || ((m == n) && c)) ≡ false → nat_lt m n ≡ false
not_below m n c h = grind arith

pub finish_appends : (J : List Record) (b : Batch) (ds : List Bool) (cause : ℕ) (q r : Record) → appends (next_finish J b ds cause) q ≡ Some r
    → (q ≡ r) × ((slot J b.lane).phase ≡ InLock) × ((slot J b.lane).number ≡ b.number) × FitsReplies (lock_of J b) ds
finish_appends J b ds cause q r h =
    let one = passed (nat_lt b.number (slot J b.lane).number || ((b.number == (slot J b.lane).number) && is_idle (slot J b.lane).phase)) _ _ q r refl
    h in
    let two = passed (nat_lt (slot J b.lane).number b.number) _ _ q r refl one.1 in
    let three = in_lock (slot J b.lane).phase J b ds cause q r two.1 in (
      three.2,
      three.0,
      equal b.number (slot J b.lane).number (not_below b.number (slot J b.lane).number (is_idle (slot J b.lane).phase) one.0) two.0,
      misfit_none (lock_of J b) ds three.1,
    )

in_finish : (ph : Phase) (J : List Record) (b : Batch) (cause : ℕ) (q r : Record) → appends (forget_in ph J b cause) q ≡ Some r
    → (ph ≡ InFinish) × (q ≡ r)
in_finish InFinish J b cause q r h = (refl, some_is q r (passed (not (nat_lt (slot_stamp J b.lane) cause)) _ _ q r refl h).1)
in_finish Idle J b cause q r h = absurd (none_some r h)
in_finish InLock J b cause q r h = absurd (none_some r h)
in_finish InPrepare J b cause q r h = absurd (none_some r h)
in_finish InCommit J b cause q r h = absurd (none_some r h)
in_finish InDiscard J b cause q r h = absurd (none_some r h)

pub forget_appends : (J : List Record) (b : Batch) (cause : ℕ) (q r : Record) → appends (next_forget J b cause) q ≡ Some r
    → (q ≡ r) × ((slot J b.lane).phase ≡ InFinish) × ((slot J b.lane).number ≡ b.number)
forget_appends J b cause q r h =
    let one = passed (nat_lt b.number (slot J b.lane).number) _ _ q r refl h in
    let two = passed (nat_lt (slot J b.lane).number b.number) _ _ q r refl one.1 in
    let three = in_finish (slot J b.lane).phase J b cause q r two.1 in
    (three.1, three.0, equal b.number (slot J b.lane).number one.0 two.0)

pub entries_answered : (J : List Record) (b : Batch) (p : List Entry) (claimed : List Digest) → entries (answered J b claimed p) ≡ p
entries_answered J b [] claimed = refl
entries_answered J b (e ∷ es) claimed =
    ap (λ rest. e ∷ rest) (entries_answered J b es (if is_held (reply_to J b claimed e.inputs) then e.inputs ++ claimed else claimed))

pub newer : (own cause : ℕ) → own < suc (max own cause)
newer own cause = omega arith

module _ (K : Shape) (P : Compact → Type 0) (id : Digest) (n : ℕ) (J : ℕ → List Record) where
  -- what is known of a record that a call plans
  pub record Planned (r : Record) : Type 0 where
    pub next : Next K n (J n) r
    pub caused : IsCaused K J n r
    pub passes : AllProper P r

  pub planned : (call : ShardCall) (r : Record) → record_for (J n) call ≡ Some r → CauseStands K J n call → IsInGrammar (header_of K id n) r
      → Planned r
  planned (Lock_call c) r h stands grammar =
      let q : Record = Lock (next_stamp (J n) c.cause) c.batch (answered (J n) c.batch [] c.part) in
      let f = lock_appends (J n) c.batch c.part c.cause (Lock (next_stamp (J n) c.cause) c.batch (answered (J n) c.batch [] c.part)) r h in
      let g : IsInGrammar (header_of K id n) (Lock (next_stamp (J n) c.cause) c.batch (answered (J n) c.batch [] c.part)) =
      subst (λ q. IsInGrammar (header_of K id n) q) (sym f.0) grammar in
      let same : entries (answered (J n) c.batch [] c.part) ≡ c.part = entries_answered (J n) c.batch c.part [] in
      subst (λ q. Planned q) f.0 (record {
        next = (newer (last_stamp (J n)) c.cause, g.2, f.1, f.2, ap (λ p. answered (J n) c.batch [] p) (sym same), g.3.0);
        caused = (
          ap is_some stands.1,
          (λ s e. same ∙ stands.2 s e ∙ ap (λ r. part K s 0 (txs_in r)) (sym stands.1)),
          ap (λ r. suc (max (last_stamp (J n)) (stamp_in r))) (sym stands.1),
        );
        passes = tt;
      })
  planned (Finish_call c) r h stands grammar =
      let f = finish_appends (J n) c.batch c.decisions c.cause (Finish (next_stamp (J n) c.cause) c.batch c.decisions) r h in
      let g : IsInGrammar (header_of K id n) (Finish (next_stamp (J n) c.cause) c.batch c.decisions) =
      subst (λ q. IsInGrammar (header_of K id n) q) (sym f.0) grammar in
      subst (λ q. Planned q) f.0 (record {
        next = (newer (last_stamp (J n)) c.cause, g.2, f.1, f.2, f.3);
        caused = (
          ap is_some stands.1,
          stands.2 ∙ ap (λ r. decisions (outcomes_in r) (entries (lock_of (J n) c.batch))) (sym stands.1),
          ap (λ r. suc (max (last_stamp (J n)) (stamp_in r))) (sym stands.1),
        );
        passes = tt;
      })
  planned (Forget_call c) r h stands grammar =
      let f = forget_appends (J n) c.batch c.cause (Forget (next_stamp (J n) c.cause) c.batch) r h in
      let g : IsInGrammar (header_of K id n) (Forget (next_stamp (J n) c.cause) c.batch) =
      subst (λ q. IsInGrammar (header_of K id n) q) (sym f.0) grammar in
      subst (λ q. Planned q) f.0 (record {
        next = (newer (last_stamp (J n)) c.cause, g.2, f.1, f.2);
        caused = (ap is_some stands, ap (λ r. suc (max (last_stamp (J n)) (stamp_in r))) (sym stands));
        passes = tt;
      })
