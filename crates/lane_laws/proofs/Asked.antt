-- A call or a phase whatever its answers are: what it made is caused, by look-ups alone. It serves new batches, batches that a fault
-- stopped, repeats and resumed batches.
use Rattle.std.proofs.Common.{◌≡◌, ◌⊎◌, inl, inr, ℕ, suc, ◌+◌, ◌<◌, max, Bool, true, false, ◌==◌, List, [], ◌∷◌, ◌++◌, if◌then◌else◌, Some, is_some}
use Rattle.std.proofs.Common.{Result, Ok, Err, refl, sym, ap, ◌∙◌, subst, arith}
use Rattle.cbdc_types.specs.declared.calls.LockCall.{LockCall}
use Rattle.cbdc_types.specs.declared.calls.FinishCall.{FinishCall}
use Rattle.cbdc_types.specs.declared.calls.ForgetCall.{ForgetCall}
use Rattle.cbdc_types.specs.declared.calls.Replied.{Replied}
use Rattle.cbdc_types.specs.declared.calls.NodeFault.{NodeFault}
use Rattle.cbdc_types.specs.declared.calls.NodeFault.TheVariants.{Broken}
use Rattle.cbdc_model.specs.Records.{Batch, Compact, Entry, Digest, Outcome, Record, Shape, is_held, tells_lane, record_of, lock_of, last_stamp}
use Rattle.cbdc_model.specs.Records.{stamp_in, txs_in, outcomes_in, entries_in, Finish, Forget, Prepare, Commit, Discard}
use Rattle.cbdc_model.specs.Replies.{entries, answered, reply_to}
use Rattle.cbdc_model.specs.Causes.{IsCaused}
use Rattle.cbdc_model.specs.Outcomes.{decisions}
use Rattle.cbdc_model.specs.Ranges.{shard_node, home_of, part}
use Rattle.cbdc_model.specs.World.{replaced}
use Rattle.cbdc_model.specs.Lanes.{Holds}
use Rattle.cbdc_model.specs.Next.{next_lock, next_finish, next_forget, next_stamp}
use Rattle.cbdc_model.specs.Due.{Due, Answers, Writes, unless_broken, lock_by, lock_record, stamp_by}
use Rattle.cbdc_model.specs.Sights.{Sight, Finds, Told}
use Rattle.ledger_laws.proofs.Finds.{replaced_at, replaced_away}
use Rattle.lane_laws.specs.Batches.{view}
use Rattle.lane_laws.specs.Calls.{is_concerned, IsPartLock, IsPartFinish, IsPartForget, AreLocks, AreFinishes, AreForgets, Every}
use Rattle.lane_laws.specs.Answers.{EachTold, Others, LockAnswer, FinishAnswer, ForgetAnswer}
use Rattle.lane_laws.proofs.Own.{finds_record}
use Rattle.lane_laws.proofs.Steps.{StepAt, stays_there, comes_there, makes_there, fails_there}
use Rattle.lane_laws.proofs.Views.{view_home, view_shard, apart_home}
use Rattle.lane_laws.proofs.Dues.{lock_wrote, lock_unbroken, stamp_wrote, stamp_unbroken}
use Rattle.lane_laws.proofs.Tellings.{Wrote, Stood, Stopped, told_ok, told_err}
use Rattle.lane_laws.proofs.ByShard.{Fine, AskedAt, no_call, one_call, asked_at}

-- where no disk fails, the answer is Ok
abbrev pub OkUnless : {A : Type 0} → Bool → Result A NodeFault → Type 0
OkUnless fails a = (fails ≡ true) ⊎ Fine a

-- the record is the lane's, and was caused by what the lane saw
abbrev pub Owes : Shape → List (List Compact) → ℕ → (ℕ → List Record) → ℕ → List Record → Record → Type 0
Owes K pieces lane I n found r = (tells_lane lane r ≡ true) × Holds pieces r × IsCaused K (replaced I n found) n r

pub call_step : {A : Type 0} (K : Shape) (pieces : List (List Compact)) (alone : Bool) (lane : ℕ) (fails memory : Bool) (I : ℕ → List Record) (n : ℕ)
    (old new : Sight)
    (by : List Record → Due A) (next : List Record → Record) → I n ≡ old.seen → ((J : List Record) (s : ℕ) → by J ≡ Answers (Err (Broken s)) → ⊥)
    → ((J : List Record) (a : A) (r : Record) → by J ≡ Writes a r → r ≡ next J)
    → ((found : List Record) → Finds alone lane old.seen found → Owes K pieces lane I n found (next found))
    → (answer : Result A NodeFault) → OkUnless fails answer → Told alone lane memory (λ broken J. unless_broken broken (by J)) old new answer
    → StepAt K pieces alone lane fails I n old.flight new.flight new.seen
call_step {A = A} K pieces alone lane fails memory I n old new by next seen unbroken writes owes answer good told = go answer good told
  where
    finds_at : (found : List Record) → Finds alone lane old.seen found → Finds alone lane (I n) found
    finds_at found f = subst (λ L. Finds alone lane L found) (sym seen) f

    made : (a : A) → Stood alone lane by old new a ⊎ Wrote alone lane by old new a
        → StepAt K pieces alone lane fails I n old.flight new.flight new.seen
    made a (inl s) = comes_there s.found (finds_at s.found s.finds) s.seen s.flight
    made a (inr w) =
        let o = owes w.found w.finds in
        makes_there w.found (next w.found) (finds_at w.found w.finds) (w.seen ∙ ap (λ r. r ∷ w.found) (writes w.found a w.what w.writes)) w.flight
        o.0 o.1 o.2

    failed : fails ≡ true → (f : NodeFault) → Stopped alone lane memory by old new f
        → StepAt K pieces alone lane fails I n old.flight new.flight new.seen
    failed t f s = elim (s.flight) [
      | inl e ↦ comes_there s.found (finds_at s.found s.finds) s.seen e
      | inr w ↦ (let o = owes s.found s.finds in
          fails_there t s.found (next s.found) (finds_at s.found s.finds) s.seen (w.3 ∙ ap (λ r. Some r) (writes s.found w.0 w.1 w.2)) o.0 o.1 o.2)
    ]

    go : (answer : Result A NodeFault) → OkUnless fails answer → Told alone lane memory (λ broken J. unless_broken broken (by J)) old new answer
        → StepAt K pieces alone lane fails I n old.flight new.flight new.seen
    go (Ok a) good told = made a (told_ok alone lane memory by old new a told)
    go (Err f) (inl t) told = failed t f (told_err alone lane memory by old new f unbroken told)
    go (Err f) (inr x) told = absurd (let z : Err f ≡ Ok x.0 = x.1 in cc)

pub entries_answered : (J : List Record) (b : Batch) (p : List Entry) (claimed : List Digest) → entries (answered J b claimed p) ≡ p
entries_answered J b [] claimed = refl
entries_answered J b (e ∷ es) claimed =
    ap (λ rest. e ∷ rest) (entries_answered J b es (if is_held (reply_to J b claimed e.inputs) then e.inputs ++ claimed else claimed))

module _ (K : Shape) (pieces : List (List Compact)) (alone : Bool) (lane number : ℕ) (home : home_of K lane < K.coordinators) (txs : List Compact)
    (fails : Bool) where
  abbrev B : Batch
  B = record { lane = lane; number = number }

  same_number : (n : ℕ) → (n == n) ≡ true
  same_number n = grind arith

  turned : (a b : ℕ) → (a == b) ≡ false → (b == a) ≡ false
  turned a b h = grind arith

  home_read : (log : Sight) (shards : ℕ → Sight) (s : ℕ) (found : List Record)
      → replaced (view K lane log shards) (shard_node K s) found (home_of K lane) ≡ log.seen
  home_read log shards s found = replaced_away (view K lane log shards) (shard_node K s) found (home_of K lane)
      (turned (home_of K lane) (shard_node K s) (apart_home K lane home s)) ∙ view_home K lane home log shards (home_of K lane) refl

  here : (log : Sight) (shards : ℕ → Sight) (s : ℕ) (found : List Record)
      → replaced (view K lane log shards) (shard_node K s) found (shard_node K s) ≡ found
  here log shards s found = replaced_at (view K lane log shards) (shard_node K s) found (shard_node K s) refl

  -- what a shard's node became in a phase
  abbrev ShardStep : Sight → (ℕ → Sight) → (ℕ → Sight) → ℕ → Type 0
  ShardStep log I J s = StepAt K pieces alone lane fails (view K lane log I) (shard_node K s) (I s).flight (J s).flight (J s).seen

  untouched : (log : Sight) (I J : ℕ → Sight) (s : ℕ) → J s ≡ I s → ShardStep log I J s
  untouched log I J s e = stays_there (ap (λ v. v.seen) e ∙ sym (view_shard K lane home log I s)) (ap (λ v. v.flight) e)

  -- Lock
  pub locks_step : (t : ℕ) (log : Sight) (I J : ℕ → Sight) (cs : List (ℕ × LockCall)) (answers : List (Result Replied NodeFault))
      → record_of 6 log.seen B ≡ Some (Prepare t B txs)
      → AreLocks K txs B t cs → EachTold (LockAnswer alone) cs answers I J → Others cs I J → Every (OkUnless fails) answers → (s : ℕ)
      → ShardStep log I J s
  locks_step t log I J cs answers prepare calls each others good s =
      go (asked_at (LockAnswer alone) (IsPartLock K txs B t) (OkUnless fails) I J s cs answers each calls.every good)
    where
      call : LockCall
      call = record { batch = B; part = part K s 0 txs; cause = t }

      owes : (found : List Record) → Finds alone lane (I s).seen found
          → Owes K pieces lane (view K lane log I) (shard_node K s) found (lock_record found (record { batch = B; part = part K s 0 txs; cause = t }))
      owes found f =
          let cause : record_of 6 (replaced (view K lane log I) (shard_node K s) found (home_of K lane)) B ≡ Some (Prepare t B txs) =
          ap (λ L. record_of 6 L B) (home_read log I s found) ∙ prepare in (
            same_number lane,
            tt,
            (
              ap is_some cause,
              λ s' e. entries_answered found B (part K s 0 txs) [] ∙ ap (λ n. part K n 0 txs) (same_shard K.coordinators s s' e)
                  ∙ ap (λ o. part K s' 0 (txs_in o)) (sym cause),
              sym (λ i. suc (max (last_stamp (here log I s found i)) (stamp_in (cause i)))),
            ),
          )
        where
          same_shard : (c s s' : ℕ) → c + s ≡ c + s' → s ≡ s'
          same_shard c s s' e = omega arith

      answer : (a : Result Replied NodeFault) → OkUnless fails a
          → LockAnswer alone (s, record { batch = B; part = part K s 0 txs; cause = t }) (I s) (J s) a → ShardStep log I J s
      answer a ok told = call_step K pieces alone lane fails true (view K lane log I) (shard_node K s) (I s) (J s)
          (λ L. lock_by (next_lock L B (part K s 0 txs) t) (I s).header.shape (I s).capacity L
          (record { batch = B; part = part K s 0 txs; cause = t }))
          (λ L. lock_record L (record { batch = B; part = part K s 0 txs; cause = t })) (view_shard K lane home log I s)
          (λ L n e. lock_unbroken (I s).header.shape (I s).capacity L (record { batch = B; part = part K s 0 txs; cause = t })
          (next_lock L B (part K s 0 txs) t) n e)
          (λ L b r e. (lock_wrote (I s).header.shape (I s).capacity L (record { batch = B; part = part K s 0 txs; cause = t })
          (next_lock L B (part K s 0 txs) t) b r e).3)
          owes a ok told

      go : AskedAt (LockAnswer alone) (IsPartLock K txs B t) (OkUnless fails) cs I J s → ShardStep log I J s
      go (no_call n) = untouched log I J s (others s n)
      go (one_call c h e a ok told) = answer a ok (subst (λ (d : ℕ × LockCall). LockAnswer alone d (I s) (J s) a)
          (λ i. (e i, (h.1 ∙ ap (λ (n : ℕ). let d : LockCall = record { batch = B; part = part K n 0 txs; cause = t } in d) e) i)) told)

  -- Finish
  pub finishes_step : (os : List Outcome) (t : ℕ) (log : Sight) (I J : ℕ → Sight) (cs : List (ℕ × FinishCall)) (answers : List (Result ℕ NodeFault))
      → record_of 7 log.seen B ≡ Some (Commit t B os)
      → ((s : ℕ) → is_concerned K txs s ≡ true → entries (lock_of (I s).seen B) ≡ part K s 0 txs)
      → AreFinishes K txs os B t cs → EachTold (FinishAnswer alone) cs answers I J → Others cs I J → Every (OkUnless fails) answers → (s : ℕ)
      → ShardStep log I J s
  finishes_step os t log I J cs answers commit locks calls each others good s =
      go (asked_at (FinishAnswer alone) (IsPartFinish K txs os B t) (OkUnless fails) I J s cs answers each calls.every good)
    where
      ds : List Bool
      ds = decisions os (part K s 0 txs)

      owes : is_concerned K txs s ≡ true → (found : List Record) → Finds alone lane (I s).seen found
          → Owes K pieces lane (view K lane log I) (shard_node K s) found (Finish (next_stamp found t) B (decisions os (part K s 0 txs)))
      owes c found f =
          let cause : record_of 7 (replaced (view K lane log I) (shard_node K s) found (home_of K lane)) B ≡ Some (Commit t B os) =
          ap (λ L. record_of 7 L B) (home_read log I s found) ∙ commit in (
            same_number lane,
            tt,
            (
              ap is_some cause,
              sym (λ i. decisions (ap outcomes_in cause i)
                  ((ap (λ L. entries (lock_of L B)) (here log I s found)
                  ∙ ap (λ o. entries (entries_in o)) (finds_record alone 2 B (I s).seen found f) ∙ locks s c) i)),
              sym (λ i. suc (max (last_stamp (here log I s found i)) (stamp_in (cause i)))),
            ),
          )

      wrote : (L : List Record) (b : ℕ) (r : Record)
          → stamp_by (next_finish L B (decisions os (part K s 0 txs)) t) (Finish (next_stamp L t) B (decisions os (part K s 0 txs))) ≡ Writes b r
          → r ≡ Finish (next_stamp L t) B (decisions os (part K s 0 txs))
      wrote L b r e = (stamp_wrote (next_finish L B (decisions os (part K s 0 txs)) t) (Finish (next_stamp L t) B (decisions os (part K s 0 txs))) b
          r e).1

      answer : is_concerned K txs s ≡ true → (a : Result ℕ NodeFault) → OkUnless fails a
          → FinishAnswer alone (s, record { batch = B; decisions = decisions os (part K s 0 txs); cause = t }) (I s) (J s) a → ShardStep log I J s
      answer c a ok told = call_step K pieces alone lane fails false (view K lane log I) (shard_node K s) (I s) (J s)
          (λ L. stamp_by (next_finish L B (decisions os (part K s 0 txs)) t) (Finish (next_stamp L t) B (decisions os (part K s 0 txs))))
          (λ L. Finish (next_stamp L t) B (decisions os (part K s 0 txs))) (view_shard K lane home log I s)
          (λ L n e. stamp_unbroken (next_finish L B (decisions os (part K s 0 txs)) t) (Finish (next_stamp L t) B (decisions os (part K s 0 txs))) n
          e)
          wrote (owes c) a ok told

      go : AskedAt (FinishAnswer alone) (IsPartFinish K txs os B t) (OkUnless fails) cs I J s → ShardStep log I J s
      go (no_call n) = untouched log I J s (others s n)
      go (one_call c h e a ok told) = answer (subst (λ m. is_concerned K txs m ≡ true) e h.0) a ok
          (subst (λ (d : ℕ × FinishCall). FinishAnswer alone d (I s) (J s) a)
          (λ i. (
            e i,
            (h.1 ∙ ap (λ (n : ℕ). let d : FinishCall = record { batch = B; decisions = decisions os (part K n 0 txs); cause = t } in d) e) i,
          )) told)

  -- Forget
  pub forgets_step : (t : ℕ) (log : Sight) (I J : ℕ → Sight) (cs : List (ℕ × ForgetCall)) (answers : List (Result ℕ NodeFault))
      → record_of 8 log.seen B ≡ Some (Discard t B)
      → AreForgets K txs B t cs → EachTold (ForgetAnswer alone) cs answers I J → Others cs I J → Every (OkUnless fails) answers → (s : ℕ)
      → ShardStep log I J s
  forgets_step t log I J cs answers discard calls each others good s =
      go (asked_at (ForgetAnswer alone) (IsPartForget K txs B t) (OkUnless fails) I J s cs answers each calls.every good)
    where
      owes : (found : List Record) → Finds alone lane (I s).seen found
          → Owes K pieces lane (view K lane log I) (shard_node K s) found (Forget (next_stamp found t) B)
      owes found f =
          let cause : record_of 8 (replaced (view K lane log I) (shard_node K s) found (home_of K lane)) B ≡ Some (Discard t B) =
          ap (λ L. record_of 8 L B) (home_read log I s found) ∙ discard in (
            same_number lane,
            tt,
            (
              ap is_some cause,
              sym (λ i. suc (max (last_stamp (here log I s found i)) (stamp_in (cause i)))),
            ),
          )

      answer : (a : Result ℕ NodeFault) → OkUnless fails a → ForgetAnswer alone (s, record { batch = B; cause = t }) (I s) (J s) a
          → ShardStep log I J s
      answer a ok told = call_step K pieces alone lane fails false (view K lane log I) (shard_node K s) (I s) (J s)
          (λ L. stamp_by (next_forget L B t) (Forget (next_stamp L t) B)) (λ L. Forget (next_stamp L t) B) (view_shard K lane home log I s)
          (λ L n e. stamp_unbroken (next_forget L B t) (Forget (next_stamp L t) B) n e)
          (λ L b r e. (stamp_wrote (next_forget L B t) (Forget (next_stamp L t) B) b r e).1) owes a ok told

      go : AskedAt (ForgetAnswer alone) (IsPartForget K txs B t) (OkUnless fails) cs I J s → ShardStep log I J s
      go (no_call n) = untouched log I J s (others s n)
      go (one_call c h e a ok told) = answer a ok (subst (λ (d : ℕ × ForgetCall). ForgetAnswer alone d (I s) (J s) a) (λ i. (e i, h.1 i)) told)
