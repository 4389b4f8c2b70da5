-- A batch that a fault stopped: what was made is caused, and so is what was left in flight; and the fault is a node's own answer.
use Rattle.std.proofs.Common.{◌≡◌, ◌⊎◌, inl, inr, ℕ, suc, ◌<◌, ◌≤◌, Bool, true, false, ◌==◌, List, [], ◌∷◌, map, Some, None, Result, Ok, Err, refl}
use Rattle.std.proofs.Common.{sym, ap, ◌∙◌, subst, arith}
use Rattle.cbdc_types.specs.declared.calls.LockCall.{LockCall}
use Rattle.cbdc_types.specs.declared.calls.FinishCall.{FinishCall}
use Rattle.cbdc_types.specs.declared.calls.ForgetCall.{ForgetCall}
use Rattle.cbdc_types.specs.declared.calls.Refused.{Refused}
use Rattle.cbdc_types.specs.declared.calls.NodeFault.{NodeFault}
use Rattle.cbdc_types.specs.declared.batch.ShardReplies.{ShardReplies}
use Rattle.cbdc_types.specs.declared.calls.NodeFault.TheVariants.{Broken, Refused as Refuses, ClockEnd, Full, DiskFault, Memory}
use Rattle.cbdc_model.specs.Records.{Batch, Compact, Entry, Outcome, Record, Shape, record_of, lock_of as lock_in, Finish, Forget, Prepare, Commit}
use Rattle.cbdc_model.specs.Records.{Discard}
use Rattle.cbdc_model.specs.Slots.{slot, Idle, InLock, InPrepare, InCommit, InDiscard}
use Rattle.cbdc_model.specs.After.{FitsReplies}
use Rattle.cbdc_model.specs.Replies.{entries}
use Rattle.cbdc_model.specs.Outcomes.{decisions}
use Rattle.cbdc_model.specs.Ranges.{home_of, part}
use Rattle.cbdc_model.specs.Causes.{greatest}
use Rattle.cbdc_model.specs.Deciding.{decided, replies_at, reply_stamp, reply_cause}
use Rattle.cbdc_model.specs.Next.{Plan, next_lock, next_finish, next_forget, next_stamp}
use Rattle.cbdc_model.specs.Room.{need_of}
use Rattle.cbdc_model.specs.Due.{Due, Answers, lock_by, stamp_by, lock_due, used_of, new_batch, prepare_record, prepare_due, decide_due, discard_due}
use Rattle.cbdc_model.specs.Due.{done_due}
use Rattle.ledger_laws.proofs.Moves.{greatest_bound}
use Rattle.cbdc_model.specs.Sights.{Sight}
use Rattle.lane_laws.specs.Batches.{own, prepares_txs, prepared_of, Settled, IsAnswerOf, TakesRoom, BatchStopped}
use Rattle.lane_laws.specs.Granting.{MayLock, MayFinish, MayForget}
use Rattle.lane_laws.specs.Faults.{IsAnswered, IsNoRefusal, IsCallFault, to_lock, to_decide, to_finish, to_discard, to_forget, to_done, IsOpenFault}
use Rattle.lane_laws.specs.Faults.{AreSeenBelow}
use Rattle.lane_laws.specs.Calls.{shard, is_concerned, Every, AreParts, AreLocks, IsPartLock, IsPartFinish, IsPartForget, lock_call_of}
use Rattle.lane_laws.specs.Calls.{finish_call_of, forget_call_of}
use Rattle.lane_laws.specs.Gathering.{stamp_at}
use Rattle.lane_laws.specs.Answers.{LockAnswer, FinishAnswer, ForgetAnswer}
use Rattle.lane_laws.specs.Traces.{DiscardedStopped, at_forget, at_done, CommittedStopped, at_finish, at_discard, behind_discard, PreparedStopped}
use Rattle.lane_laws.specs.Traces.{at_lock, at_decide, behind_commit, ToldStopped, at_prepare, behind_prepare}
use Rattle.lane_laws.proofs.Own.{finds_own, slot_own}
use Rattle.lane_laws.proofs.Views.{Moved, Fell, fell_on, shards_fell}
use Rattle.lane_laws.proofs.Dues.{lock_unbroken, stamp_unbroken, stamp_full, stamp_end}
use Rattle.lane_laws.proofs.Tellings.{Stopped, FaultBy, told_err, answered}
use Rattle.lane_laws.proofs.ByShard.{every_any, first_at, before_at}
use Rattle.lane_laws.proofs.Asked.{OkUnless, locks_step, finishes_step, forgets_step}
use Rattle.lane_laws.proofs.LogCalls.{Open, LogFell, commit_ok, commit_above, commit_err, discard_ok, discard_above, discard_err, done_err}
use Rattle.lane_laws.proofs.Grants.{lock_grants, finish_grants, forget_grants, lock_on, finish_on, forget_on, locked_stamp, finished_stamp}
use Rattle.lane_laws.proofs.Grants.{early_refuses, late_refuses, stamp_refuses, lock_refuses, unrefused, answer_unrefused}
use Rattle.lane_laws.proofs.Fits.{decided_fits}
use Rattle.lane_laws.proofs.Shards.{IsForgot, lock_has, finish_has, forget_has}
use Rattle.lane_laws.proofs.Calls.{in_range, are_locks, are_finishes, are_forgets}
use Rattle.lane_laws.proofs.Preparing.{batch_of, prepare_ok, prepare_err}
use Rattle.lane_laws.proofs.Whole.{opened}
use Rattle.lane_laws.proofs.Runs.{same_record, LocksRun, locks_run, named_outcomes, FinishesRun, finishes_run, forgets_run, not_forgot}

itself : (n : ℕ) → (n == n) ≡ true
itself n = grind arith

kept_room : (p : Plan ℕ) (what : Record) (f : NodeFault) → FaultBy false (stamp_by p what) f → TakesRoom f → ⊥
kept_room p what (Broken since) w t = t
kept_room p what (Refuses r) w t = t
kept_room p what (ClockEnd stamp) w t = let g = stamp_end p what stamp w in omega (arith, g, t)
kept_room p what (Full used need capacity) w t = stamp_full p what used need capacity w
kept_room p what DiskFault w t = t
kept_room p what Memory w t = let z : false ≡ true = w in cc

-- slots
same_slot : (lane : ℕ) (L M : List Record) → own lane M ≡ own lane L → slot M lane ≡ slot L lane
same_slot lane L M same = slot_own lane M ∙ ap (λ N. slot N lane) same ∙ sym (slot_own lane L)

prepared_slot : (lane number : ℕ) (M rest : List Record) (t : ℕ) (txs : List Compact)
    → M ≡ Prepare t (record { lane = lane; number = number }) txs ∷ rest → (slot M lane).phase ≡ InPrepare
prepared_slot lane number M rest t txs e = ap (λ L. (slot L lane).phase) e ∙ (let z : (lane == lane) ≡ true = itself lane in rw z)

module _ (K : Shape) (pieces : List (List Compact)) (alone : Bool) (lane number : ℕ) (home : home_of K lane < K.coordinators) (txs : List Compact)
  where
    abbrev B : Batch
    B = record { lane = lane; number = number }

    committed_slot : (M rest : List Record) (t : ℕ) (os : List Outcome) → M ≡ Commit t B os ∷ rest → (slot M lane).phase ≡ InCommit
    committed_slot M rest t os e = ap (λ L. (slot L lane).phase) e ∙ (let z : (lane == lane) ≡ true = itself lane in rw z)

    discarded_slot : (M rest : List Record) (t : ℕ) → M ≡ Discard t B ∷ rest → (slot M lane).phase ≡ InDiscard
    discarded_slot M rest t e = ap (λ L. (slot L lane).phase) e ∙ (let z : (lane == lane) ≡ true = itself lane in rw z)

    -- where a run of calls stopped behind the Locks
    pub record RunStopped (log log' : Sight) (I J : ℕ → Sight) (node : ℕ) (f : NodeFault) : Type 0 where
      pub fell : Fell K pieces alone lane log I log' J
      pub told : IsAnswerOf K lane log' J node f
      pub roomless : TakesRoom f → ⊥
      pub fault : IsOpenFault K B txs log' J node f
      pub granted : IsNoRefusal f
      pub prepares : prepared_of lane log'.seen ≡ prepared_of lane log.seen

    stopped_on : (log log1 log' : Sight) (I M J : ℕ → Sight) (node : ℕ) (f : NodeFault) → Moved K pieces alone lane log I log1 M
        → prepared_of lane log1.seen ≡ prepared_of lane log.seen
        → RunStopped log1 log' M J node f → RunStopped log log' I J node f
    stopped_on log log1 log' I M J node f m p r = record {
      fell = fell_on K pieces alone lane log log1 log' I M J m r.fell;
      told = r.told;
      roomless = r.roomless;
      fault = r.fault;
      granted = r.granted;
      prepares = r.prepares ∙ p;
    }

    -- at the coordinator
    log_stopped : (due : List Record → Due ℕ) (log log' : Sight) (I : ℕ → Sight) (t node : ℕ) (f : NodeFault) → Open K lane number txs log t
        → node ≡ home_of K lane
        → ((why : Refused) → due log'.seen ≡ Answers (Err (Refuses why)) → ⊥)
        → ((slot log'.seen lane).phase ≡ (slot log.seen lane).phase → IsAnswered false (due log'.seen) log' f → IsCallFault K B txs log' I node f)
        → LogFell K pieces alone lane number home txs due log log' I f → RunStopped log log' I I node f
    log_stopped due log log' I t node f o e never call h = record {
      fell = h.0;
      told = inl (e, h.1.risen);
      roomless = h.2;
      fault = record {
        stamp = t;
        prepare = same_record 6 lane B log.seen log'.seen refl h.1.same ∙ o.prepare;
        number = ap (λ q. q.number) (same_slot lane log.seen log'.seen h.1.same) ∙ o.open_number;
        busy = λ i. o.busy (sym (ap (λ q. q.phase) (same_slot lane log.seen log'.seen h.1.same)) ∙ i);
        call = call (ap (λ q. q.phase) (same_slot lane log.seen log'.seen h.1.same)) h.3;
      };
      granted = answer_unrefused false (due log'.seen) log' f never h.3;
      prepares = ap prepares_txs h.1.same;
    }

    anyway : {A : Type 0} (answers : List (Result A NodeFault)) → Every (OkUnless true) answers
    anyway answers = every_any (OkUnless true) (λ a. inl refl) answers

    pub discarded_stopped : (log log' : Sight) (I J : ℕ → Sight) (t u td repeats : ℕ) (locks : List (ℕ × LockCall)) (node : ℕ) (f : NodeFault)
        → Open K lane number txs log t → record_of 8 log.seen B ≡ Some (Discard td B) → (slot log.seen lane).phase ≡ InDiscard
        → ((s : ℕ) → is_concerned K txs s ≡ false → record_of 4 (I s).seen B ≡ None)
        → ((s : ℕ) → is_concerned K txs s ≡ true → MayForget (I s).seen B td) → IsForgot K alone lane number txs I → AreLocks K txs B u locks
        → DiscardedStopped K alone B td repeats locks log log' I J node f → RunStopped log log' I J node f
    discarded_stopped log log' I J t u td repeats locks node f o discard phase_is none may forgot are (at_forget s stop same node_is) =
        subst (λ l. RunStopped log l I J node f) (sym same) (record {
          fell = shards_fell K lane home pieces alone true log I J
              (forgets_step K pieces alone lane number home txs true td log I J (map (forget_call_of B td) locks) stop.asked.answers discard
              (are_forgets K txs B u td locks are)
              stop.asked.each stop.asked.others (anyway stop.asked.answers));
          told = inr (s, node_is, failed.risen);
          roomless = kept_room (next_forget failed.found B td) (Forget (next_stamp failed.found td) B) f failed.why;
          fault = record {
            stamp = t;
            prepare = o.prepare;
            number = o.open_number;
            busy = o.busy;
            call = to_forget s td node_is concerned phase_is discard had
                (answered alone lane false (λ L. stamp_by (next_forget L B td) (Forget (next_stamp L td) B)) (I s) (J s) f failed);
          };
          granted = unrefused false (stamp_by (next_forget failed.found B td) (Forget (next_stamp failed.found td) B)) f
              (λ why e. forget_grants failed.found B td
              (forget_on lane number (I s).seen failed.found (finds_own alone lane (I s).seen failed.found failed.finds) td (may s concerned)) why
              (stamp_refuses (next_forget failed.found B td) (Forget (next_stamp failed.found td) B) why e)) failed.why;
          prepares = refl;
        })
      where
        had : AreSeenBelow K txs J 4 B s
        had k lt c =
            let e = before_at (ForgetAnswer alone) (IsPartForget K txs B td) I J s k f (map (forget_call_of B td) locks) stop.asked.answers
            stop.asked.each (are_forgets K txs B u td locks are).every (are_forgets K txs B u td locks are).rising stop.first lt
            (λ n. (are_forgets K txs B u td locks are).covers k c n) in
            forget_has K alone lane number txs k td I J e.3 forgot c
            (subst (λ (d : ForgetCall). ForgetAnswer alone (k, d) (I k) (J k) (Ok e.3)) e.1.1 e.4)

        asked : (c : ℕ × ForgetCall) × IsPartForget K txs B td c × (c.0 ≡ s) × ForgetAnswer alone c (I s) (J s) (Err f)
        asked = first_at (ForgetAnswer alone) (IsPartForget K txs B td) I J s f (map (forget_call_of B td) locks) stop.asked.answers stop.asked.each
            (are_forgets K txs B u td locks are).every stop.first

        concerned : is_concerned K txs s ≡ true
        concerned = subst (λ m. is_concerned K txs m ≡ true) asked.2 asked.1.0

        failed : Stopped alone lane false (λ L. stamp_by (next_forget L B td) (Forget (next_stamp L td) B)) (I s) (J s) f
        failed =
            told_err alone lane false (λ L. stamp_by (next_forget L B td) (Forget (next_stamp L td) B)) (I s) (J s) f
            (λ L n e. stamp_unbroken (next_forget L B td) (Forget (next_stamp L td) B) n e)
            (subst (λ (d : ForgetCall). ForgetAnswer alone (s, d) (I s) (J s) (Err f)) asked.1.1 asked.3)
    discarded_stopped log log' I J t u td repeats locks node f o discard phase_is none may forgot are
        (at_done forgotten after phase again told node_is) =
        let r = forgets_run K pieces alone lane number home txs log I after J u td forgotten repeats locks discard none forgot are phase again in
        stopped_on log log log' I J J node f r.moved refl
        (log_stopped (λ L. done_due lane forgotten None L) log log' J t node f o node_is (λ why e. late_refuses _ _ _ why e)
        (λ same. to_done forgotten node_is (same ∙ phase_is) (λ s lt c. r.looks.some s c)
        (r.greatest_is ∙ (λ i. greatest (λ s. sym (r.looks.stamp s) i) K.shards)))
        (done_err K pieces alone lane number home txs log log' J t o forgotten
        (stamp_at shard (map (forget_call_of B td) locks) phase.asked.answers) r.looks r.greatest_is f told))

    -- behind the Finishes and a later Discard each concerned shard may forget the batch
    forgetting : (log : Sight) (I J : ℕ → Sight) (os : List Outcome) (m td : ℕ) (fins : ℕ → ℕ)
        → FinishesRun K pieces alone lane number home txs log I J os m fins → m < td
        → (s : ℕ) → is_concerned K txs s ≡ true → MayForget (J s).seen B td
    forgetting log I J os m td fins r above s c = (
      r.number_is s c,
      inl (
        r.finished s c,
        older (finished_stamp (J s).seen B (r.number_is s c) (r.finished s c) ∙ r.looks.stamp s)
            (greatest_bound fins K.shards s (in_range K txs s c)) r.greatest_is above,
      ),
    )
      where
        older : {a b g m t : ℕ} → a ≡ b → b ≤ g → m ≡ g → m < t → a < t
        older e le is lt = omega arith

    -- behind the Locks and a later Commit by their replies each concerned shard may finish it
    finishing : (log : Sight) (I J : ℕ → Sight) (t tc : ℕ) (rs : List ShardReplies) (os : List Outcome)
        → LocksRun K pieces alone lane number home txs rs log I J → ((s : ℕ) → is_concerned K txs s ≡ true → MayLock (I s).seen B (part K s 0 txs) t)
        → os ≡ decided K txs rs → reply_cause K rs < tc → (s : ℕ) → is_concerned K txs s ≡ true
        → MayFinish (J s).seen B (decisions os (part K s 0 txs)) tc
    finishing log I J t tc rs os r may os_is above s c = (
      (r.shards s).number_is c,
      inl (
        in_lock,
        subst (λ q. FitsReplies (lock_in (J s).seen B) (decisions q (part K s 0 txs))) (sym os_is)
            (decided_fits K txs rs s (in_range K txs s c) (lock_in (J s).seen B) (r.shards s).looks.entries_are ((r.shards s).looks.part_is c)),
        older (locked_stamp (J s).seen B ((r.shards s).number_is c) in_lock ∙ (r.shards s).looks.stamp_is)
            (greatest_bound (λ k. reply_stamp (replies_at rs k)) K.shards s (in_range K txs s c)) above,
      ),
    )
      where
        older : {a b g t : ℕ} → a ≡ b → b ≤ g → g < t → a < t
        older e le lt = omega arith

        before : slot (J s).seen lane ≡ slot (I s).seen lane → MayLock (I s).seen B (part K s 0 txs) t → (slot (J s).seen lane).phase ≡ InLock
        before e (inl m) = absurd (behind (slot (J s).seen lane).number (slot (I s).seen lane).number (ap (λ q. q.number) e)
            ((r.shards s).number_is c)
            m.0)
          where
            behind : (a b : ℕ) → a ≡ b → a ≡ number → b < number → ⊥
            behind a b e n lt = omega arith
        before e (inr m) = ap (λ q. q.phase) e ∙ m.1

        in_lock : (slot (J s).seen lane).phase ≡ InLock
        in_lock = elim ((r.shards s).slot_is c) [ inl p ↦ p | inr e ↦ before e (may s c) ]

    pub committed_stopped : (log log' : Sight) (I J : ℕ → Sight) (t u tc : ℕ) (os : List Outcome) (repeats : ℕ) (locks : List (ℕ × LockCall))
        (node : ℕ) (f : NodeFault) → Open K lane number txs log t
        → record_of 7 log.seen B ≡ Some (Commit tc B os) → (slot log.seen lane).phase ≡ InCommit
        → ((s : ℕ) → is_concerned K txs s ≡ true → entries (lock_in (I s).seen B) ≡ part K s 0 txs)
        → ((s : ℕ) → is_concerned K txs s ≡ true → MayFinish (I s).seen B (decisions os (part K s 0 txs)) tc)
        → ((s kind : ℕ) → (kind ≡ 3) ⊎ (kind ≡ 4) → is_concerned K txs s ≡ false → record_of kind (I s).seen B ≡ None) → AreLocks K txs B u locks
        → CommittedStopped K alone B tc os repeats locks log log' I J node f → RunStopped log log' I J node f
    committed_stopped log log' I J t u tc os repeats locks node f o commit phase_is part_is may none are (at_finish s stop same node_is) =
        subst (λ l. RunStopped log l I J node f) (sym same) (record {
          fell = shards_fell K lane home pieces alone true log I J
              (finishes_step K pieces alone lane number home txs true os tc log I J (map (finish_call_of B tc os) locks) stop.asked.answers commit
              part_is (are_finishes K txs B os u tc locks are)
              stop.asked.each stop.asked.others (anyway stop.asked.answers));
          told = inr (s, node_is, failed.risen);
          roomless = kept_room (next_finish failed.found B (decisions os (part K s 0 txs)) tc)
              (Finish (next_stamp failed.found tc) B (decisions os (part K s 0 txs))) f failed.why;
          fault = record {
            stamp = t;
            prepare = o.prepare;
            number = o.open_number;
            busy = o.busy;
            call = to_finish s tc os node_is concerned phase_is commit had
                (answered alone lane false (λ L. stamp_by (next_finish L B (decisions os (part K s 0 txs)) tc)
                (Finish (next_stamp L tc) B (decisions os (part K s 0 txs)))) (I s) (J s) f failed);
          };
          granted = unrefused false (stamp_by (next_finish failed.found B (decisions os (part K s 0 txs)) tc)
              (Finish (next_stamp failed.found tc) B (decisions os (part K s 0 txs)))) f
              (λ why e. finish_grants failed.found B (decisions os (part K s 0 txs)) tc
              (finish_on lane number (I s).seen failed.found (finds_own alone lane (I s).seen failed.found failed.finds)
              (decisions os (part K s 0 txs)) tc (may s concerned)) why
              (stamp_refuses (next_finish failed.found B (decisions os (part K s 0 txs)) tc)
              (Finish (next_stamp failed.found tc) B (decisions os (part K s 0 txs))) why e)) failed.why;
          prepares = refl;
        })
      where
        had : AreSeenBelow K txs J 3 B s
        had k lt c =
            let e = before_at (FinishAnswer alone) (IsPartFinish K txs os B tc) I J s k f (map (finish_call_of B tc os) locks) stop.asked.answers
            stop.asked.each (are_finishes K txs B os u tc locks are).every (are_finishes K txs B os u tc locks are).rising
            stop.first lt (λ n. (are_finishes K txs B os u tc locks are).covers k c n) in
            finish_has K alone lane number txs os k tc (I k) (J k) e.3 c
            (subst (λ (d : FinishCall). FinishAnswer alone (k, d) (I k) (J k) (Ok e.3))
            (e.1.1 ∙ ap (λ (n : ℕ). let d : FinishCall = record { batch = B; decisions = decisions os (part K n 0 txs); cause = tc } in d) e.2) e.4)

        asked : (c : ℕ × FinishCall) × IsPartFinish K txs os B tc c × (c.0 ≡ s) × FinishAnswer alone c (I s) (J s) (Err f)
        asked = first_at (FinishAnswer alone) (IsPartFinish K txs os B tc) I J s f (map (finish_call_of B tc os) locks) stop.asked.answers
            stop.asked.each (are_finishes K txs B os u tc locks are).every stop.first

        concerned : is_concerned K txs s ≡ true
        concerned = subst (λ m. is_concerned K txs m ≡ true) asked.2 asked.1.0

        failed : Stopped alone lane false (λ L. stamp_by (next_finish L B (decisions os (part K s 0 txs)) tc)
            (Finish (next_stamp L tc) B (decisions os (part K s 0 txs)))) (I s) (J s) f
        failed =
            told_err alone lane false (λ L. stamp_by (next_finish L B (decisions os (part K s 0 txs)) tc)
            (Finish (next_stamp L tc) B (decisions os (part K s 0 txs)))) (I s) (J s) f
            (λ L n e. stamp_unbroken (next_finish L B (decisions os (part K s 0 txs)) tc) (Finish (next_stamp L tc) B (decisions os (part K s 0 txs)))
            n e)
            (subst (λ (d : FinishCall). FinishAnswer alone (s, d) (I s) (J s) (Err f))
            (asked.1.1 ∙ ap (λ (n : ℕ). let d : FinishCall = record { batch = B; decisions = decisions os (part K n 0 txs); cause = tc } in d)
            asked.2) asked.3)
    committed_stopped log log' I J t u tc os repeats locks node f o commit phase_is part_is may none are
        (at_discard finished after phase again told node_is) =
        let r = finishes_run K pieces alone lane number home txs log I after J u tc finished os repeats locks commit part_is
        (λ s c. none s 3 (inl refl) c) are phase again in
        stopped_on log log log' I J J node f r.moved refl
        (log_stopped (λ L. discard_due lane finished None L) log log' J t node f o node_is (λ why e. late_refuses _ _ _ why e)
        (λ same. to_discard finished node_is (same ∙ phase_is) (λ s lt c. r.looks.some s c)
        (r.greatest_is ∙ (λ i. greatest (λ s. sym (r.looks.stamp s) i) K.shards)))
        (discard_err K pieces alone lane number home txs log log' J t o finished
        (stamp_at shard (map (finish_call_of B tc os) locks) phase.asked.answers) r.looks r.greatest_is f told))
    committed_stopped log log' I J t u tc os repeats locks node f o commit phase_is part_is may none are
        (behind_discard finished after phase before again log1 td told stop) =
        let r = finishes_run K pieces alone lane number home txs log I after before u tc finished os repeats locks commit part_is
        (λ s c. none s 3 (inl refl) c) are phase again in
        let d = discard_ok K pieces alone lane number home txs log log1 before t o finished
        (stamp_at shard (map (finish_call_of B tc os) locks) phase.asked.answers) r.looks r.greatest_is td told in
        let above = discard_above K pieces alone lane number home txs log log1 before t o finished
        (stamp_at shard (map (finish_call_of B tc os) locks) phase.asked.answers) r.looks r.greatest_is td told in
        stopped_on log log log' I before J node f r.moved refl
        (stopped_on log log1 log' before before J node f d.0.moved (ap prepares_txs d.0.step.own_is)
        (discarded_stopped log1 log' before J t u td repeats locks node f d.0.stays d.1 (discarded_slot log1.seen d.0.step.seen td d.0.step.seen_is)
        (λ s c. same_record 4 lane B (I s).seen (before s).seen refl (r.others s c) ∙ none s 4 (inr refl) c)
        (forgetting log I before os finished td (stamp_at shard (map (finish_call_of B tc os) locks) phase.asked.answers) r above)
        (not_forgot K pieces alone lane number home txs log I before os finished
        (stamp_at shard (map (finish_call_of B tc os) locks) phase.asked.answers) r) are stop))

    -- from a Prepare on: a fault because room ran out leaves a shard without its Lock
    pub record PreparedFell (log log' : Sight) (I J : ℕ → Sight) (node : ℕ) (f : NodeFault) : Type 0 where
      pub fell : Fell K pieces alone lane log I log' J
      pub told : IsAnswerOf K lane log' J node f
      pub fault : IsOpenFault K B txs log' J node f
      pub granted : IsNoRefusal f
      pub room : TakesRoom f → (s : ℕ) × (is_concerned K txs s ≡ true) × (own lane (J s).seen ≡ own lane (I s).seen)
      pub prepares : prepared_of lane log'.seen ≡ prepared_of lane log.seen

    prepared_on : (log log1 log' : Sight) (I M J : ℕ → Sight) (node : ℕ) (f : NodeFault) → Moved K pieces alone lane log I log1 M
        → prepared_of lane log1.seen ≡ prepared_of lane log.seen
        → RunStopped log1 log' M J node f → PreparedFell log log' I J node f
    prepared_on log log1 log' I M J node f m p r = record {
      fell = fell_on K pieces alone lane log log1 log' I M J m r.fell;
      told = r.told;
      fault = r.fault;
      granted = r.granted;
      room = λ t. absurd (r.roomless t);
      prepares = r.prepares ∙ p;
    }

    pub prepared_stopped : (log log' : Sight) (I J : ℕ → Sight) (t repeats : ℕ) (parts : List (ℕ × List Entry)) (node : ℕ) (f : NodeFault)
        → Open K lane number txs log t → (slot log.seen lane).phase ≡ InPrepare
        → ((s kind : ℕ) → (kind ≡ 2) ⊎ (kind ≡ 3) ⊎ (kind ≡ 4) → is_concerned K txs s ≡ false → record_of kind (I s).seen B ≡ None)
        → ((s : ℕ) → is_concerned K txs s ≡ true → MayLock (I s).seen B (part K s 0 txs) t) → AreParts K txs parts
        → PreparedStopped K alone B t repeats parts log log' I J node f → PreparedFell log log' I J node f
    prepared_stopped log log' I J t repeats parts node f o phase_is none may are (at_lock s stop same node_is) =
        subst (λ l. PreparedFell log l I J node f) (sym same) (record {
          fell = shards_fell K lane home pieces alone true log I J
              (locks_step K pieces alone lane number home txs true t log I J (map (lock_call_of B t) parts) stop.asked.answers o.prepare
              (are_locks K txs B t parts are)
              stop.asked.each stop.asked.others (anyway stop.asked.answers));
          told = inr (s, node_is, failed.risen);
          fault = record {
            stamp = t;
            prepare = o.prepare;
            number = o.open_number;
            busy = o.busy;
            call = to_lock s t node_is concerned phase_is o.prepare had
                (subst (λ h. IsAnswered true (lock_due h.shape (J s).capacity own_call None (J s).seen) (J s) f) (sym failed.node.header)
                (subst (λ m. IsAnswered true (lock_due (I s).header.shape m own_call None (J s).seen) (J s) f) (sym failed.node.capacity)
                (answered alone lane true (λ L. lock_by (next_lock L B (part K s 0 txs) t) (I s).header.shape (I s).capacity L own_call) (I s) (J s) f
                failed)));
          };
          granted = unrefused true (lock_by (next_lock failed.found B (part K s 0 txs) t) (I s).header.shape (I s).capacity failed.found own_call) f
              (λ why e. lock_grants failed.found B (part K s 0 txs) t
              (lock_on lane number (I s).seen failed.found (finds_own alone lane (I s).seen failed.found failed.finds) (part K s 0 txs) t
              (may s concerned)) why
              (lock_refuses (I s).header.shape (I s).capacity failed.found own_call (next_lock failed.found B (part K s 0 txs) t) why e)) failed.why;
          room = λ r. (s, concerned, ap (λ L. own lane L) failed.seen ∙ finds_own alone lane (I s).seen failed.found failed.finds);
          prepares = refl;
        })
      where
        had : AreSeenBelow K txs J 2 B s
        had k lt c =
            let e = before_at (LockAnswer alone) (IsPartLock K txs B t) I J s k f (map (lock_call_of B t) parts) stop.asked.answers stop.asked.each
            (are_locks K txs B t parts are).every (are_locks K txs B t parts are).rising stop.first lt
            (λ n. (are_locks K txs B t parts are).covers k c n) in
            lock_has K alone lane number txs k t (I k) (J k) e.3 c
            (subst (λ (d : LockCall). LockAnswer alone (k, d) (I k) (J k) (Ok e.3))
            (e.1.1 ∙ ap (λ (n : ℕ). let d : LockCall = record { batch = B; part = part K n 0 txs; cause = t } in d) e.2) e.4)

        call : (c : ℕ × LockCall) × IsPartLock K txs B t c × (c.0 ≡ s) × LockAnswer alone c (I s) (J s) (Err f)
        call = first_at (LockAnswer alone) (IsPartLock K txs B t) I J s f (map (lock_call_of B t) parts) stop.asked.answers stop.asked.each
            (are_locks K txs B t parts are).every stop.first

        own_call : LockCall
        own_call = record { batch = B; part = part K s 0 txs; cause = t }

        concerned : is_concerned K txs s ≡ true
        concerned = subst (λ m. is_concerned K txs m ≡ true) call.2 call.1.0

        failed : Stopped alone lane true (λ L. lock_by (next_lock L B (part K s 0 txs) t) (I s).header.shape (I s).capacity L
            (record { batch = B; part = part K s 0 txs; cause = t })) (I s) (J s) f
        failed = told_err alone lane true (λ L. lock_by (next_lock L B (part K s 0 txs) t) (I s).header.shape (I s).capacity L
            (record { batch = B; part = part K s 0 txs; cause = t })) (I s) (J s) f
            (λ L m e. lock_unbroken (I s).header.shape (I s).capacity L (record { batch = B; part = part K s 0 txs; cause = t })
            (next_lock L B (part K s 0 txs) t) m e)
            (subst (λ (d : LockCall). LockAnswer alone (s, d) (I s) (J s) (Err f))
            (call.1.1 ∙ ap (λ (n : ℕ). let d : LockCall = record { batch = B; part = part K n 0 txs; cause = t } in d) call.2) call.3)
    prepared_stopped log log' I J t repeats parts node f o phase_is none may are (at_decide rs after l again told node_is) =
        let r = locks_run K pieces alone lane number home txs log I after J t repeats parts rs o (λ s c. none s 2 (inl refl) c) are l again in
        prepared_on log log log' I J J node f r.moved refl
        (log_stopped (λ L. decide_due K lane rs None L) log log' J t node f o node_is (λ why e. late_refuses _ _ _ why e)
        (λ same. to_decide rs node_is (same ∙ phase_is) (λ s lt c. (r.shards s).looks.some c)
        (λ i. greatest (λ s. sym (r.shards s).looks.stamp_is i) K.shards))
        (commit_err K pieces alone lane number home txs log log' J t o rs (λ s. (r.shards s).looks) f told))
    prepared_stopped log log' I J t repeats parts node f o phase_is none may are (behind_commit rs after l before again log1 tc told os os_is stop) =
        let r = locks_run K pieces alone lane number home txs log I after before t repeats parts rs o (λ s c. none s 2 (inl refl) c) are l again in
        let d = commit_ok K pieces alone lane number home txs log log1 before t o rs (λ s. (r.shards s).looks) tc told in
        let e = named_outcomes K pieces alone lane number home txs log1 os (decided K txs rs) tc d.0.stays.open_number d.1 os_is in
        prepared_on log log log' I before J node f r.moved refl
        (stopped_on log log1 log' before before J node f d.0.moved (ap prepares_txs d.0.step.own_is)
        (committed_stopped log1 log' before J t t tc os repeats (map (lock_call_of B t) parts) node f d.0.stays
        (d.1 ∙ ap (λ q. Some (Commit tc B q)) (sym e)) (committed_slot log1.seen d.0.step.seen tc (decided K txs rs) d.0.step.seen_is)
        (λ s. (r.shards s).looks.part_is)
        (finishing log I before t tc rs os r may e (commit_above K pieces alone lane number home txs log log1 before t o rs (λ s. (r.shards s).looks)
        tc told))
        (λ s kind h c. same_record kind lane B (I s).seen (before s).seen refl ((r.shards s).others c) ∙ none s kind (inr h) c)
        (are_locks K txs B t parts are) stop))

idle_still : (lane : ℕ) (L M : List Record) → own lane M ≡ own lane L → (slot L lane).phase ≡ Idle → (slot M lane).phase ≡ Idle
idle_still lane L M same idle = ap (λ q. q.phase) (same_slot lane L M same) ∙ idle

-- a new batch that a fault stopped
pub batch_stopped : (K : Shape) (alone : Bool) (lane k : ℕ) (txs : List Compact) (repeats : ℕ) (parts : List (ℕ × List Entry)) (log log' : Sight)
    (I J : ℕ → Sight) (node : ℕ) (f : NodeFault)
    → Settled K lane k log I → AreParts K txs parts → ToldStopped K alone lane txs repeats parts log log' I J node f
    → BatchStopped K alone lane txs log I log' J node f
batch_stopped K alone lane k txs repeats parts log log' I J node f st are (at_prepare told same node_is) =
    subst (λ (X : ℕ → Sight). BatchStopped K alone lane txs log I log' X node f) (λ i s. sym (same s) i)
    (let h = prepare_err K alone lane k st.home txs log log' I st.number f told in record {
      made = h.0.made;
      flown = h.0.flown;
      room = λ t. inl h.1.same;
      prepares = inl (ap prepares_txs h.1.same);
      told = inl (node_is, h.1.risen);
      fault = inl (node_is, idle_still lane log.seen log'.seen h.1.same st.idle, h.2);
      begun = inl h.1.same;
      granted = answer_unrefused true (prepare_due log'.header.shape log'.capacity lane txs None log'.seen) log' f
          (λ why e. early_refuses (next_stamp log'.seen 0) (used_of log'.seen)
          (need_of log'.header.shape log'.seen (prepare_record log'.seen lane txs)) log'.capacity
          (new_batch log'.seen lane, next_stamp log'.seen 0) (prepare_record log'.seen lane txs) why e) h.2;
    })
batch_stopped K alone lane k txs repeats parts log log' I J node f st are (behind_prepare b log1 t told stop) =
    let p = prepare_ok K alone lane k st.home txs log log1 I st.number b t told in
    let r = prepared_stopped K (txs ∷ []) alone lane (suc k) st.home txs log1 log' I J t repeats parts node f
    (opened K lane k txs log log1 t st.shape p.2) (prepared_slot lane (suc k) log1.seen p.2.seen t txs p.2.seen_is)
    (λ s kind h c. st.fresh_shard s kind (batch_of lane k) refl (omega arith))
    (λ s c. inl (omega (arith, st.shard_number s), st.shard_idle s, omega (arith, st.shard_stamp s, p.2.later))) are
    (subst (λ c. PreparedStopped K alone c t repeats parts log1 log' I J node f) p.0 stop) in
    let h = fell_on K (txs ∷ []) alone lane log log1 log' I I J p.1 r.fell in
    record {
      made = h.made;
      flown = h.flown;
      room = λ t. inr (r.room t);
      prepares = inr (r.prepares ∙ ap prepares_txs p.2.own_is);
      told = r.told;
      fault = inr (batch_of lane k, refl, r.fault);
      begun = inr (batch_of lane k, refl, omega (arith, st.number), r.fault);
      granted = r.granted;
    }
