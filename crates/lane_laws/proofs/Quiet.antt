-- Calls made again append nothing.
use Rattle.std.proofs.Common.{◌≡◌, ◌⊎◌, inl, inr, ℕ, zero, suc, ◌<◌, Bool, true, false, ◌==◌, List, Result, Ok, Err, sym, ap, ◌∙◌, subst, arith}
use Rattle.cbdc_types.specs.declared.calls.LockCall.{LockCall}
use Rattle.cbdc_types.specs.declared.calls.FinishCall.{FinishCall}
use Rattle.cbdc_types.specs.declared.calls.ForgetCall.{ForgetCall}
use Rattle.cbdc_types.specs.declared.calls.Replied.{Replied}
use Rattle.cbdc_types.specs.declared.calls.NodeFault.{NodeFault}
use Rattle.cbdc_types.specs.declared.calls.NodeFault.TheVariants.{Broken}
use Rattle.cbdc_model.specs.Records.{Batch, Compact, Outcome, Record, Shape, Finish, Forget}
use Rattle.cbdc_model.specs.Slots.{slot, InLock, InFinish}
use Rattle.cbdc_model.specs.Outcomes.{decisions}
use Rattle.cbdc_model.specs.Ranges.{home_of, part}
use Rattle.cbdc_model.specs.Next.{next_lock, next_finish, next_forget, next_stamp}
use Rattle.cbdc_model.specs.Due.{Due, Answers, Writes, unless_broken, lock_by, stamp_by}
use Rattle.cbdc_model.specs.Sights.{Sight, Finds, Told}
use Rattle.lane_laws.specs.Batches.{own}
use Rattle.lane_laws.specs.Calls.{is_concerned, Every, IsPartLock, IsPartFinish, IsPartForget, AreLocks, AreFinishes, AreForgets}
use Rattle.lane_laws.specs.Answers.{LockAnswer, FinishAnswer, ForgetAnswer, Asked, AskedTimes}
use Rattle.lane_laws.proofs.Own.{finds_own, finds_slot, slot_own}
use Rattle.lane_laws.proofs.Steps.{stays_there, comes_there}
use Rattle.lane_laws.proofs.Views.{Moved, view_shard, moved_on, shards_moved}
use Rattle.lane_laws.proofs.Dues.{lock_wrote, lock_new, lock_unbroken, stamp_wrote, stamp_unbroken, finish_new, forget_new}
use Rattle.lane_laws.proofs.Tellings.{told_ok, told_err}
use Rattle.lane_laws.proofs.ByShard.{AskedAt, no_call, one_call, asked_at, every_any}

-- nothing was written, and nothing left in flight
pub record Silent (alone : Bool) (lane : ℕ) (old new : Sight) : Type 0 where
  pub found : List Record
  pub finds : Finds alone lane old.seen found
  pub seen : new.seen ≡ found
  pub flight : new.flight ≡ old.flight

pub silent : {A : Type 0} (alone : Bool) (lane : ℕ) (memory : Bool) (by : List Record → Due A) (old new : Sight)
    → ((J : List Record) (s : ℕ) → by J ≡ Answers (Err (Broken s)) → ⊥)
    → ((found : List Record) → Finds alone lane old.seen found → (a : A) (r : Record) → by found ≡ Writes a r → ⊥)
    → (answer : Result A NodeFault) → Told alone lane memory (λ broken J. unless_broken broken (by J)) old new answer → Silent alone lane old new
silent alone lane memory by old new unbroken never (Ok a) told = elim (told_ok alone lane memory by old new a told) [
  | inl s ↦ record { found = s.found; finds = s.finds; seen = s.seen; flight = s.flight }
  | inr w ↦ absurd (never w.found w.finds a w.what w.writes)
]
silent alone lane memory by old new unbroken never (Err f) told =
    let s = told_err alone lane memory by old new f unbroken told in
    record {
      found = s.found;
      finds = s.finds;
      seen = s.seen;
      flight = elim (s.flight) [ inl e ↦ e | inr w ↦ absurd (never s.found s.finds w.0 w.1 w.2) ];
    }

module _ (K : Shape) (pieces : List (List Compact)) (alone : Bool) (lane number : ℕ) (home : home_of K lane < K.coordinators) (txs : List Compact)
  where
    abbrev B : Batch
    B = record { lane = lane; number = number }

    -- the lane's own records are as before
    pub record Quiet (log : Sight) (I J : ℕ → Sight) : Type 0 where
      pub moved : Moved K pieces alone lane log I log J
      pub own_same : (s : ℕ) → own lane (J s).seen ≡ own lane (I s).seen

    quiet_by : (log : Sight) (I J : ℕ → Sight) → ((s : ℕ) → (J s ≡ I s) ⊎ Silent alone lane (I s) (J s)) → Quiet log I J
    quiet_by log I J each = record {
      moved = shards_moved K lane home pieces alone log I J (λ s. elim (each s) [
        | inl e ↦ stays_there (ap (λ v. v.seen) e ∙ sym (view_shard K lane home log I s)) (ap (λ v. v.flight) e)
        | inr q ↦ comes_there q.found (subst (λ L. Finds alone lane L q.found) (sym (view_shard K lane home log I s)) q.finds) q.seen q.flight
      ]);
      own_same = λ s. elim (each s) [
        | inl e ↦ ap (λ v. own lane v.seen) e
        | inr q ↦ ap (λ L. own lane L) q.seen ∙ finds_own alone lane (I s).seen q.found q.finds
      ];
    }

    pub quiet_on : (log : Sight) (I M J : ℕ → Sight) → Quiet log I M → Quiet log M J → Quiet log I J
    quiet_on log I M J a b = record {
      moved = moved_on K pieces alone lane log log log I M J a.moved b.moved;
      own_same = λ s. b.own_same s ∙ a.own_same s;
    }

    pub same_slot : (log : Sight) (I J : ℕ → Sight) → Quiet log I J → (s : ℕ) → slot (J s).seen lane ≡ slot (I s).seen lane
    same_slot log I J q s = slot_own lane (J s).seen ∙ ap (λ L. slot L lane) (q.own_same s) ∙ sym (slot_own lane (I s).seen)

    once : {C A : Type 0} (told : ℕ × C → Sight → Sight → A → Type 0) (P : ℕ × C → Type 0) (log : Sight) (I J : ℕ → Sight) (cs : List (ℕ × C))
        → Every P cs → Asked told cs I J
        → ((s : ℕ) (c : ℕ × C) → P c → c.0 ≡ s → (a : A) → told c (I s) (J s) a → Silent alone lane (I s) (J s)) → Quiet log I J
    once {A = A} told P log I J cs every asked one =
        quiet_by log I J (λ s. at s (asked_at told P (λ a. Unit {0}) I J s cs asked.answers asked.each every
        (every_any (λ a. Unit {0}) (λ a. tt) asked.answers)))
      where
        at : (s : ℕ) → AskedAt told P (λ (a : A). Unit {0}) cs I J s → (J s ≡ I s) ⊎ Silent alone lane (I s) (J s)
        at s (no_call n) = inl (asked.others s n)
        at s (one_call c p e a u t) = inr (one s c p e a t)

    many : {C A : Type 0} (told : ℕ × C → Sight → Sight → A → Type 0) (log : Sight) (cs : List (ℕ × C)) (I : ℕ → Sight)
        → ((M J : ℕ → Sight) → Quiet log I M → Asked told cs M J → Quiet log M J)
        → (n : ℕ) (J : ℕ → Sight) → AskedTimes told cs n I J → Quiet log I J
    many told log cs I one zero J same = quiet_by log I J (λ s. inl (same s))
    many told log cs I one (suc n) J more = let q = many told log cs I one n more.0 more.1 in quiet_on log I more.0 J q (one more.0 J q more.2)

    -- Lock, where the shards have the batch's number
    pub locks_quiet : (log : Sight) (t n : ℕ) (I J : ℕ → Sight) (cs : List (ℕ × LockCall)) → AreLocks K txs B t cs
        → ((s : ℕ) → is_concerned K txs s ≡ true → (slot (I s).seen lane).number ≡ number)
        → AskedTimes (LockAnswer alone) cs n I J → Quiet log I J
    locks_quiet log t n I J cs calls numbers times =
        many (LockAnswer alone) log cs I (λ M X q asked. once (LockAnswer alone) (IsPartLock K txs B t) log M X cs calls.every asked
        (λ s c h e a told. at M X q s c h e a told)) n J times
      where
        differs : (m : ℕ) → m ≡ number → (number == m) ≡ false → ⊥
        differs m e h = let z : (number == m) ≡ true = grind (arith, e) in let y : true ≡ false = sym z ∙ h in cc

        at : (M X : ℕ → Sight) → Quiet log I M → (s : ℕ) (c : ℕ × LockCall) → IsPartLock K txs B t c → c.0 ≡ s → (a : Result Replied NodeFault)
            → LockAnswer alone c (M s) (X s) a → Silent alone lane (M s) (X s)
        at M X q s c h e a told = silent alone lane true
            (λ L. lock_by (next_lock L B (part K s 0 txs) t) (M s).header.shape (M s).capacity L
            (record { batch = B; part = part K s 0 txs; cause = t })) (M s) (X s)
            (λ L m. lock_unbroken (M s).header.shape (M s).capacity L (record { batch = B; part = part K s 0 txs; cause = t })
            (next_lock L B (part K s 0 txs) t) m)
            (λ found f b r w.
            let p = lock_wrote (M s).header.shape (M s).capacity found (record { batch = B; part = part K s 0 txs; cause = t })
            (next_lock found B (part K s 0 txs) t) b r w in
            differs (slot found lane).number (ap (λ z. z.number) (finds_slot alone lane (M s).seen found f ∙ same_slot log I M q s)
            ∙ numbers s (subst (λ m. is_concerned K txs m ≡ true) e h.0))
            (lock_new found B (part K s 0 txs) t p.0 p.1).0)
            a (subst (λ (d : ℕ × LockCall). LockAnswer alone d (M s) (X s) a)
            (λ i. (e i, (h.1 ∙ ap (λ (n : ℕ). let d : LockCall = record { batch = B; part = part K n 0 txs; cause = t } in d) e) i)) told)

    -- Finish, where no shard is locked
    pub finishes_quiet : (log : Sight) (os : List Outcome) (t n : ℕ) (I J : ℕ → Sight) (cs : List (ℕ × FinishCall)) → AreFinishes K txs os B t cs
        → ((s : ℕ) → is_concerned K txs s ≡ true → (slot (I s).seen lane).phase ≡ InLock → ⊥) → AskedTimes (FinishAnswer alone) cs n I J
        → Quiet log I J
    finishes_quiet log os t n I J cs calls unlocked times =
        many (FinishAnswer alone) log cs I (λ M X q asked. once (FinishAnswer alone) (IsPartFinish K txs os B t) log M X cs calls.every asked
        (λ s c h e a told. at M X q s c h e a told)) n J times
      where
        at : (M X : ℕ → Sight) → Quiet log I M → (s : ℕ) (c : ℕ × FinishCall) → IsPartFinish K txs os B t c → c.0 ≡ s → (a : Result ℕ NodeFault)
            → FinishAnswer alone c (M s) (X s) a → Silent alone lane (M s) (X s)
        at M X q s c h e a told = silent alone lane false
            (λ L. stamp_by (next_finish L B (decisions os (part K s 0 txs)) t) (Finish (next_stamp L t) B (decisions os (part K s 0 txs)))) (M s)
            (X s)
            (λ L m. stamp_unbroken (next_finish L B (decisions os (part K s 0 txs)) t) (Finish (next_stamp L t) B (decisions os (part K s 0 txs))) m)
            (λ found f b r w.
            let p = stamp_wrote (next_finish found B (decisions os (part K s 0 txs)) t)
            (Finish (next_stamp found t) B (decisions os (part K s 0 txs)))
            b r w in
            unlocked s (subst (λ m. is_concerned K txs m ≡ true) e h.0)
            (ap (λ z. z.phase) (sym (finds_slot alone lane (M s).seen found f ∙ same_slot log I M q s))
            ∙ (finish_new found B (decisions os (part K s 0 txs)) t b p.0).0))
            a (subst (λ (d : ℕ × FinishCall). FinishAnswer alone d (M s) (X s) a)
            (λ i. (
              e i,
              (h.1 ∙ ap (λ (n : ℕ). let d : FinishCall = record { batch = B; decisions = decisions os (part K n 0 txs); cause = t } in d) e) i,
            )) told)

    -- Forget, where no shard has finished and not forgotten
    pub forgets_quiet : (log : Sight) (t n : ℕ) (I J : ℕ → Sight) (cs : List (ℕ × ForgetCall)) → AreForgets K txs B t cs
        → ((s : ℕ) → is_concerned K txs s ≡ true → (slot (I s).seen lane).phase ≡ InFinish → ⊥) → AskedTimes (ForgetAnswer alone) cs n I J
        → Quiet log I J
    forgets_quiet log t n I J cs calls unfinished times =
        many (ForgetAnswer alone) log cs I (λ M X q asked. once (ForgetAnswer alone) (IsPartForget K txs B t) log M X cs calls.every asked
        (λ s c h e a told. at M X q s c h e a told)) n J times
      where
        at : (M X : ℕ → Sight) → Quiet log I M → (s : ℕ) (c : ℕ × ForgetCall) → IsPartForget K txs B t c → c.0 ≡ s → (a : Result ℕ NodeFault)
            → ForgetAnswer alone c (M s) (X s) a → Silent alone lane (M s) (X s)
        at M X q s c h e a told = silent alone lane false (λ L. stamp_by (next_forget L B t) (Forget (next_stamp L t) B)) (M s) (X s)
            (λ L m. stamp_unbroken (next_forget L B t) (Forget (next_stamp L t) B) m)
            (λ found f b r w.
            let p = stamp_wrote (next_forget found B t) (Forget (next_stamp found t) B) b r w in
            unfinished s (subst (λ m. is_concerned K txs m ≡ true) e h.0)
            (ap (λ z. z.phase) (sym (finds_slot alone lane (M s).seen found f ∙ same_slot log I M q s)) ∙ (forget_new found B t b p.0).0))
            a (subst (λ (d : ℕ × ForgetCall). ForgetAnswer alone d (M s) (X s) a) (λ i. (e i, h.1 i)) told)
