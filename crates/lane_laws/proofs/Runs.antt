-- A batch from what was told of its calls, new and resumed alike.
use Rattle.std.proofs.Common.{◌≡◌, ◌⊎◌, inl, inr, ℕ, ◌<◌, Bool, true, false, List, [], ◌∷◌, map, Some, None, is_some, Result, refl, sym, ap, ◌∙◌}
use Rattle.std.proofs.Common.{subst, arith}
use Rattle.cbdc_types.specs.declared.calls.LockCall.{LockCall}
use Rattle.cbdc_types.specs.declared.calls.Replied.{Replied}
use Rattle.cbdc_types.specs.declared.calls.NodeFault.{NodeFault}
use Rattle.cbdc_types.specs.declared.batch.ShardReplies.{ShardReplies}
use Rattle.cbdc_model.specs.Records.{Batch, Compact, Entry, Outcome, Record, Shape, record_of, lock_of as lock_in, last_stamp, stamp_in, entries_in}
use Rattle.cbdc_model.specs.Records.{outcomes_in, outcomes_of, Lock, Finish, Forget, Commit, Discard, Done}
use Rattle.cbdc_model.specs.Slots.{Phase, slot, Idle, InLock, InFinish}
use Rattle.cbdc_model.specs.Replies.{entries}
use Rattle.cbdc_model.specs.Outcomes.{decisions}
use Rattle.cbdc_model.specs.Causes.{greatest}
use Rattle.cbdc_model.specs.Ranges.{home_of, part}
use Rattle.cbdc_model.specs.Deciding.{decided, replies_at, replies_in, reply_stamp, answered_with}
use Rattle.cbdc_model.specs.Due.{open_batch}
use Rattle.cbdc_model.specs.Sights.{Sight}
use Rattle.ledger_laws.proofs.Moves.{greatest_bound}
use Rattle.lane_laws.specs.Batches.{own}
use Rattle.lane_laws.specs.Calls.{shard, is_concerned, AreParts, AreLocks, IsPartFinish, IsPartForget, lock_call_of, finish_call_of, forget_call_of}
use Rattle.lane_laws.specs.Gathering.{stamp_at}
use Rattle.lane_laws.specs.Answers.{LockAnswer, FinishAnswer, ForgetAnswer, Locked, Stamped, AskedTimes}
use Rattle.lane_laws.specs.Traces.{ToldDiscarded, ToldCommitted, ToldPrepared}
use Rattle.lane_laws.proofs.Own.{record_own}
use Rattle.lane_laws.proofs.Views.{Moved, moved_on, shards_moved}
use Rattle.lane_laws.proofs.ByShard.{every_fine, gathered_fine, Fine}
use Rattle.lane_laws.proofs.Asked.{OkUnless, locks_step, finishes_step, forgets_step}
use Rattle.lane_laws.proofs.LogCalls.{LogStep, Open, Looks, LooksLock, LogDone, commit_ok, discard_ok, done_ok, done_above}
use Rattle.lane_laws.proofs.Shards.{LockedShard, locked_shard, finished_shard, forgotten_shard, IsForgot}
use Rattle.lane_laws.proofs.Quiet.{Quiet, quiet_on, same_slot, locks_quiet, finishes_quiet, forgets_quiet}
use Rattle.lane_laws.proofs.Calls.{are_locks, are_finishes, are_forgets, latest_greatest}
use Rattle.lane_laws.specs.Calls.{Every}

-- what is read of the lane's records is read alike where its own are the same
pub same_record : (kind lane : ℕ) (b : Batch) (I J : List Record) → b.lane ≡ lane → own lane J ≡ own lane I → record_of kind J b ≡ record_of kind I b
same_record kind lane b I J h e = record_own kind b J ∙ ap (λ n. record_of kind (own n J) b) h ∙ ap (λ L. record_of kind L b) e
    ∙ ap (λ n. record_of kind (own n I) b) (sym h) ∙ sym (record_own kind b I)

every_unless : {A : Type 0} (answers : List (Result A NodeFault)) → Every Fine answers → Every (OkUnless false) answers
every_unless [] h = tt
every_unless (a ∷ answers) h = (inr h.0, every_unless answers h.1)

module _ (K : Shape) (pieces : List (List Compact)) (alone : Bool) (lane number : ℕ) (home : home_of K lane < K.coordinators) (txs : List Compact)
  where
    abbrev B : Batch
    B = record { lane = lane; number = number }

    on : (log log1 log2 : Sight) (I M J : ℕ → Sight) → Moved K pieces alone lane log I log1 M → Moved K pieces alone lane log1 M log2 J
        → Moved K pieces alone lane log I log2 J
    on log log1 log2 I M J a b = moved_on K pieces alone lane log log1 log2 I M J a b

    -- what a shard has behind the Forgets
    pub record ForgotShard (ends : ℕ → ℕ) (I J : ℕ → Sight) (s : ℕ) : Type 0 where
      pub slot_is : is_concerned K txs s ≡ true → ((slot (J s).seen lane).number ≡ number) × ((slot (J s).seen lane).phase ≡ Idle)
      pub others : is_concerned K txs s ≡ false → own lane (J s).seen ≡ own lane (I s).seen
      pub adds : is_concerned K txs s ≡ true → (own lane (J s).seen ≡ Forget (ends s) B ∷ own lane (I s).seen) ⊎ ((slot (I s).seen lane).phase ≡ Idle)

    -- from a Discard on
    pub record DiscardedRun (log log' : Sight) (I J : ℕ → Sight) (ended : ℕ) (ends : ℕ → ℕ) : Type 0 where
      pub moved : Moved K pieces alone lane log I log' J
      pub step : LogStep lane log log' (Done ended B)
      pub shards : (s : ℕ) → ForgotShard ends I J s
      pub above : (s : ℕ) → s < K.shards → ends s < ended

    no_end' : {X : Type 0} (p : Phase) → p ≡ Idle → p ≡ InFinish → X
    no_end' p a b = absurd (let z : Idle ≡ InFinish = sym a ∙ b in cc)

    -- the Forgets, with their repeats
    pub record ForgetsRun (log : Sight) (I J : ℕ → Sight) (m : ℕ) (ends : ℕ → ℕ) : Type 0 where
      pub moved : Moved K pieces alone lane log I log J
      pub shards : (s : ℕ) → ForgotShard ends I J s
      pub looks : Looks K lane number txs 4 ends J
      pub greatest_is : m ≡ greatest ends K.shards

    pub forgets_run : (log : Sight) (I M J : ℕ → Sight) (u td m repeats : ℕ) (locks : List (ℕ × LockCall))
        → record_of 8 log.seen B ≡ Some (Discard td B)
        → ((s : ℕ) → is_concerned K txs s ≡ false → record_of 4 (I s).seen B ≡ None) → IsForgot K alone lane number txs I → AreLocks K txs B u locks
        → (f : Stamped (ForgetAnswer alone) (map (forget_call_of B td) locks) I M m)
        → AskedTimes (ForgetAnswer alone) (map (forget_call_of B td) locks) repeats M J
        → ForgetsRun log I J m (stamp_at shard (map (forget_call_of B td) locks) f.asked.answers)
    forgets_run log I M J u td m repeats locks discard none forgot are f again =
        let cs = are_forgets K txs B u td locks are in
        let shards = forgotten_shard K alone lane number txs td I M (map (forget_call_of B td) locks) f.asked.answers none forgot cs f.asked.each
        f.asked.others f.latest.0 in
        let q = forgets_quiet K pieces alone lane number home txs log td repeats M J (map (forget_call_of B td) locks) cs
        (λ s c p. no_end' (slot (M s).seen lane).phase ((shards s).slot_is c).1 p) again in
        record {
          moved = on log log log I M J (shards_moved K lane home pieces alone log I M
              (forgets_step K pieces alone lane number home txs false td log I M (map (forget_call_of B td) locks) f.asked.answers discard cs
              f.asked.each f.asked.others (every_unless f.asked.answers (every_fine f.asked.answers f.latest.0)))) q.moved;
          shards = λ s. record {
            slot_is = λ c. (
              ap (λ z. z.number) (same_slot K pieces alone lane number home txs log M J q s) ∙ ((shards s).slot_is c).0,
              ap (λ z. z.phase) (same_slot K pieces alone lane number home txs log M J q s) ∙ ((shards s).slot_is c).1,
            );
            others = λ c. q.own_same s ∙ ap (λ v. own lane v.seen) ((shards s).others c);
            adds = λ c. elim ((shards s).adds c) [ inl e ↦ inl (q.own_same s ∙ e) | inr n ↦ inr n ];
          };
          looks = record {
            some = λ s c. ap is_some (same_record 4 lane B (M s).seen (J s).seen refl (q.own_same s)) ∙ (shards s).some c;
            stamp = λ s. ap stamp_in (same_record 4 lane B (M s).seen (J s).seen refl (q.own_same s)) ∙ (shards s).stamp;
          };
          greatest_is = latest_greatest K txs (IsPartForget K txs B td) (ForgetAnswer alone) (λ c p. p.0) (map (forget_call_of B td) locks) I M m cs
              f.asked f.latest;
        }

    pub discarded_run : (log log' : Sight) (I J : ℕ → Sight) (t u td repeats : ℕ) (locks : List (ℕ × LockCall)) → Open K lane number txs log t
        → record_of 8 log.seen B ≡ Some (Discard td B)
        → ((s : ℕ) → is_concerned K txs s ≡ false → record_of 4 (I s).seen B ≡ None) → IsForgot K alone lane number txs I → AreLocks K txs B u locks
        → (told : ToldDiscarded alone B td repeats locks log log' I J)
        → DiscardedRun log log' I J told.ended (stamp_at shard (map (forget_call_of B td) locks) told.forgets.asked.answers)
    discarded_run log log' I J t u td repeats locks o discard none forgot are told =
        let r = forgets_run log I told.after_forget J u td told.forgotten repeats locks discard none forgot are told.forgets told.forgets_again in
        let d = done_ok K pieces alone lane number home txs log log' J t o told.forgotten
        (stamp_at shard (map (forget_call_of B td) locks) told.forgets.asked.answers) r.looks r.greatest_is told.ended told.done in
        let above = done_above K pieces alone lane number home txs log log' J t o told.forgotten
        (stamp_at shard (map (forget_call_of B td) locks) told.forgets.asked.answers) r.looks r.greatest_is told.ended told.done in
        record {
          moved = on log log log' I J J r.moved d.0;
          step = d.1;
          shards = r.shards;
          above = λ s lt. (let h = greatest_bound (λ s. stamp_at shard (map (forget_call_of B td) locks) told.forgets.asked.answers s) K.shards s lt
              in
              let m = r.greatest_is in omega (arith, h, m, above));
        }

    -- the shards' own records and slots, from a Commit on
    pub record ShardRun (os : List Outcome) (fins ends : ℕ → ℕ) (I J : ℕ → Sight) (s : ℕ) : Type 0 where
      pub others : is_concerned K txs s ≡ false → own lane (J s).seen ≡ own lane (I s).seen
      pub number_is : is_concerned K txs s ≡ true → (slot (J s).seen lane).number ≡ number
      pub idle : is_concerned K txs s ≡ true → (slot (J s).seen lane).phase ≡ Idle
      pub adds : is_concerned K txs s ≡ true → (slot (I s).seen lane).phase ≡ InLock
          → own lane (J s).seen ≡ Forget (ends s) B ∷ Finish (fins s) B (decisions os (part K s 0 txs)) ∷ own lane (I s).seen

    pub record CommittedRun (os : List Outcome) (log log' : Sight) (I J : ℕ → Sight) : Type 0 where
      pub moved : Moved K pieces alone lane log I log' J
      pub discarded : ℕ
      pub ended : ℕ
      pub log_own : own lane log'.seen ≡ Done ended B ∷ Discard discarded B ∷ own lane log.seen
      pub newest : last_stamp log'.seen ≡ ended
      pub later : last_stamp log.seen < ended
      pub shape : log'.header.shape ≡ log.header.shape
      pub fins : ℕ → ℕ
      pub ends : ℕ → ℕ
      pub above : (s : ℕ) → s < K.shards → ends s < ended
      pub shards : (s : ℕ) → ShardRun os fins ends I J s

    no_phase : {X : Type 0} (p : Phase) → p ≡ InFinish → p ≡ InLock → X
    no_phase p a b = absurd (let z : InFinish ≡ InLock = sym a ∙ b in cc)

    no_idle : {X : Type 0} (p : Phase) → p ≡ Idle → p ≡ InLock → X
    no_idle p a b = absurd (let z : Idle ≡ InLock = sym a ∙ b in cc)

    no_end : {X : Type 0} (p : Phase) → p ≡ InFinish → p ≡ Idle → X
    no_end p a b = absurd (let z : InFinish ≡ Idle = sym a ∙ b in cc)

    -- the Finishes, with their repeats
    pub record FinishesRun (log : Sight) (I J : ℕ → Sight) (os : List Outcome) (m : ℕ) (fins : ℕ → ℕ) : Type 0 where
      pub moved : Moved K pieces alone lane log I log J
      pub looks : Looks K lane number txs 3 fins J
      pub greatest_is : m ≡ greatest fins K.shards
      pub number_is : (s : ℕ) → is_concerned K txs s ≡ true → (slot (J s).seen lane).number ≡ number
      pub finished : (s : ℕ) → is_concerned K txs s ≡ true → (slot (J s).seen lane).phase ≡ InFinish
      pub others : (s : ℕ) → is_concerned K txs s ≡ false → own lane (J s).seen ≡ own lane (I s).seen
      pub adds : (s : ℕ) → is_concerned K txs s ≡ true → (slot (I s).seen lane).phase ≡ InLock
          → own lane (J s).seen ≡ Finish (fins s) B (decisions os (part K s 0 txs)) ∷ own lane (I s).seen

    pub finishes_run : (log : Sight) (I M J : ℕ → Sight) (u tc m : ℕ) (os : List Outcome) (repeats : ℕ) (locks : List (ℕ × LockCall))
        → record_of 7 log.seen B ≡ Some (Commit tc B os)
        → ((s : ℕ) → is_concerned K txs s ≡ true → entries (lock_in (I s).seen B) ≡ part K s 0 txs)
        → ((s : ℕ) → is_concerned K txs s ≡ false → record_of 3 (I s).seen B ≡ None) → AreLocks K txs B u locks
        → (f : Stamped (FinishAnswer alone) (map (finish_call_of B tc os) locks) I M m)
        → AskedTimes (FinishAnswer alone) (map (finish_call_of B tc os) locks) repeats M J
        → FinishesRun log I J os m (stamp_at shard (map (finish_call_of B tc os) locks) f.asked.answers)
    finishes_run log I M J u tc m os repeats locks commit part_is none are f again =
        let cs = are_finishes K txs B os u tc locks are in
        let shards = finished_shard K alone lane number txs os tc I M (map (finish_call_of B tc os) locks) f.asked.answers none cs f.asked.each
        f.asked.others f.latest.0 in
        let q = finishes_quiet K pieces alone lane number home txs log os tc repeats M J (map (finish_call_of B tc os) locks) cs
        (λ s c p. no_phase (slot (M s).seen lane).phase ((shards s).slot_is c).1 p) again in
        record {
          moved = on log log log I M J (shards_moved K lane home pieces alone log I M
              (finishes_step K pieces alone lane number home txs false os tc log I M (map (finish_call_of B tc os) locks) f.asked.answers
              commit part_is cs f.asked.each f.asked.others (every_unless f.asked.answers (every_fine f.asked.answers f.latest.0)))) q.moved;
          looks = record {
            some = λ s c. ap is_some (same_record 3 lane B (M s).seen (J s).seen refl (q.own_same s)) ∙ (shards s).some c;
            stamp = λ s. ap stamp_in (same_record 3 lane B (M s).seen (J s).seen refl (q.own_same s)) ∙ (shards s).stamp;
          };
          greatest_is = latest_greatest K txs (IsPartFinish K txs os B tc) (FinishAnswer alone) (λ c p. p.0) (map (finish_call_of B tc os) locks) I M
              m
              cs f.asked f.latest;
          number_is = λ s c. ap (λ z. z.number) (same_slot K pieces alone lane number home txs log M J q s) ∙ ((shards s).slot_is c).0;
          finished = λ s c. ap (λ z. z.phase) (same_slot K pieces alone lane number home txs log M J q s) ∙ ((shards s).slot_is c).1;
          others = λ s c. q.own_same s ∙ ap (λ v. own lane v.seen) ((shards s).others c);
          adds = λ s c p. q.own_same s ∙ (elim ((shards s).adds c) [ inl e ↦ e | inr n ↦ no_phase (slot (I s).seen lane).phase n p ]);
        }

    -- behind the Finishes no batch is forgotten
    pub not_forgot : (log : Sight) (I J : ℕ → Sight) (os : List Outcome) (m : ℕ) (fins : ℕ → ℕ) → FinishesRun log I J os m fins
        → IsForgot K alone lane number txs J
    not_forgot log I J os m fins r s c n p = no_end (slot (J s).seen lane).phase (r.finished s c) p

    module _ (log log' : Sight) (I J : ℕ → Sight) (t u tc : ℕ) (os : List Outcome) (repeats : ℕ) (locks : List (ℕ × LockCall))
        (o : Open K lane number txs log t) (commit : record_of 7 log.seen B ≡ Some (Commit tc B os))
        (part_is : (s : ℕ) → is_concerned K txs s ≡ true → entries (lock_in (I s).seen B) ≡ part K s 0 txs)
        (none : (s kind : ℕ) → (kind ≡ 3) ⊎ (kind ≡ 4) → is_concerned K txs s ≡ false → record_of kind (I s).seen B ≡ None)
        (are : AreLocks K txs B u locks) (told : ToldCommitted alone B tc os repeats locks log log' I J) where
      fins_run : FinishesRun log I told.before_discard os told.finished
          (stamp_at shard (map (finish_call_of B tc os) locks) told.finishes.asked.answers)
      fins_run = finishes_run log I told.after_finish told.before_discard u tc told.finished os repeats locks commit part_is
          (λ s c. none s 3 (inl refl) c) are told.finishes told.finishes_again

      discarding : LogDone K pieces alone lane number home txs log told.log_discarded told.before_discard t (Discard told.discarded B)
          × (record_of 8 told.log_discarded.seen B ≡ Some (Discard told.discarded B))
      discarding = discard_ok K pieces alone lane number home txs log told.log_discarded told.before_discard t o told.finished
          (stamp_at shard (map (finish_call_of B tc os) locks) told.finishes.asked.answers) fins_run.looks fins_run.greatest_is told.discarded
          told.discard

      ending : DiscardedRun told.log_discarded log' told.before_discard told.after_done told.rest.ended
          (stamp_at shard (map (forget_call_of B told.discarded) locks) told.rest.forgets.asked.answers)
      ending = discarded_run told.log_discarded log' told.before_discard told.after_done t u told.discarded repeats locks discarding.0.stays
          discarding.1
          (λ s c. same_record 4 lane B (I s).seen (told.before_discard s).seen refl (fins_run.others s c) ∙ none s 4 (inr refl) c)
          (not_forgot log I told.before_discard os told.finished (stamp_at shard (map (finish_call_of B tc os) locks) told.finishes.asked.answers)
          fins_run) are told.rest

      late : Quiet K pieces alone lane number home txs log' told.after_done J
      late =
          let a = locks_quiet K pieces alone lane number home txs log' u repeats told.after_done told.after_locks locks are
          (λ s c. ((ending.shards s).slot_is c).0) told.locks_late in
          let sa = λ (s : ℕ). same_slot K pieces alone lane number home txs log' told.after_done told.after_locks a s in
          let b = finishes_quiet K pieces alone lane number home txs log' os tc repeats told.after_locks told.after_finishes
          (map (finish_call_of B tc os) locks) (are_finishes K txs B os u tc locks are)
          (λ s c p. no_idle (slot (told.after_locks s).seen lane).phase (ap (λ q. q.phase) (sa s) ∙ ((ending.shards s).slot_is c).1) p)
          told.finishes_late in
          let ab = quiet_on K pieces alone lane number home txs log' told.after_done told.after_locks told.after_finishes a b in
          let sb = λ (s : ℕ). same_slot K pieces alone lane number home txs log' told.after_done told.after_finishes ab s in
          let c = forgets_quiet K pieces alone lane number home txs log' told.discarded repeats told.after_finishes J
          (map (forget_call_of B told.discarded) locks) (are_forgets K txs B u told.discarded locks are)
          (λ s c p. no_end' (slot (told.after_finishes s).seen lane).phase (ap (λ q. q.phase) (sb s) ∙ ((ending.shards s).slot_is c).1) p)
          told.forgets_late in
          quiet_on K pieces alone lane number home txs log' told.after_done told.after_finishes J ab c

      pub committed_run : CommittedRun os log log' I J
      committed_run = record {
        moved = on log log log' I told.before_discard J fins_run.moved
            (on log told.log_discarded log' told.before_discard told.before_discard J discarding.0.moved
            (on told.log_discarded log' log' told.before_discard told.after_done J ending.moved late.moved));
        discarded = told.discarded;
        ended = told.rest.ended;
        log_own = ending.step.own_is ∙ ap (λ L. Done told.rest.ended B ∷ L) discarding.0.step.own_is;
        newest = ending.step.newest;
        later = (let a = discarding.0.step.later in let b = ending.step.later in let c = discarding.0.step.newest in omega (arith, a, b, c));
        shape = ending.step.shape ∙ discarding.0.step.shape;
        fins = stamp_at shard (map (finish_call_of B tc os) locks) told.finishes.asked.answers;
        ends = stamp_at shard (map (forget_call_of B told.discarded) locks) told.rest.forgets.asked.answers;
        above = ending.above;
        shards = λ s. record {
          others = λ c. late.own_same s ∙ (ending.shards s).others c ∙ fins_run.others s c;
          number_is = λ c. ap (λ q. q.number) (same_slot K pieces alone lane number home txs log' told.after_done J late s)
              ∙ ((ending.shards s).slot_is c).0;
          idle = λ c. ap (λ q. q.phase) (same_slot K pieces alone lane number home txs log' told.after_done J late s)
              ∙ ((ending.shards s).slot_is c).1;
          adds = λ c p. late.own_same s ∙ forget_added s c
              ∙ ap (λ L. Forget (stamp_at shard (map (forget_call_of B told.discarded) locks) told.rest.forgets.asked.answers s) B ∷ L)
              (fins_run.adds s c p);
        };
      }
        where
          forget_added : (s : ℕ) → is_concerned K txs s ≡ true
              → own lane (told.after_done s).seen ≡ Forget
              (stamp_at shard (map (forget_call_of B told.discarded) locks) told.rest.forgets.asked.answers s) B
              ∷ own lane (told.before_discard s).seen
          forget_added s c = elim ((ending.shards s).adds c) [
            | inl e ↦ e
            | inr q ↦ no_end (slot (told.before_discard s).seen lane).phase (fins_run.finished s c) q
          ]

    -- what the shards have behind the Locks
    pub record LocksShard (rs : List ShardReplies) (I J : ℕ → Sight) (s : ℕ) : Type 0 where
      pub looks : LooksLock K lane number txs rs J s
      pub number_is : is_concerned K txs s ≡ true → (slot (J s).seen lane).number ≡ number
      pub slot_is : is_concerned K txs s ≡ true → ((slot (J s).seen lane).phase ≡ InLock) ⊎ (slot (J s).seen lane ≡ slot (I s).seen lane)
      pub others : is_concerned K txs s ≡ false → own lane (J s).seen ≡ own lane (I s).seen
      pub adds : is_concerned K txs s ≡ true
          → (own lane (J s).seen ≡ Lock (reply_stamp (replies_at rs s)) B (answered_with (part K s 0 txs) (replies_in (replies_at rs s)))
          ∷ own lane (I s).seen) ⊎ ((slot (I s).seen lane).number ≡ number)

    locks_shard : (rs : List ShardReplies) (log : Sight) (I M J : ℕ → Sight) (s : ℕ) → LockedShard K alone lane number txs rs I M s
        → Quiet K pieces alone lane number home txs log M J → LocksShard rs I J s
    locks_shard rs log I M J s l q = record {
      looks = record {
        entries_are = ap entries_in same ∙ l.looks.entries_are;
        stamp_is = ap stamp_in same ∙ l.looks.stamp_is;
        some = λ c. ap is_some same ∙ l.looks.some c;
        part_is = λ c. ap (λ o. entries (entries_in o)) same ∙ l.looks.part_is c;
        replied = l.looks.replied;
      };
      number_is = λ c. ap (λ z. z.number) (same_slot K pieces alone lane number home txs log M J q s) ∙ l.number_is c;
      slot_is = λ c. elim (l.slot_is c) [
        | inl p ↦ inl (ap (λ z. z.phase) (same_slot K pieces alone lane number home txs log M J q s) ∙ p)
        | inr e ↦ inr (same_slot K pieces alone lane number home txs log M J q s ∙ e)
      ];
      others = λ c. q.own_same s ∙ ap (λ v. own lane v.seen) (l.others c);
      adds = λ c. elim (l.adds c) [ inl e ↦ inl (q.own_same s ∙ e) | inr n ↦ inr n ];
    }
      where
        same : record_of 2 (J s).seen B ≡ record_of 2 (M s).seen B
        same = same_record 2 lane B (M s).seen (J s).seen refl (q.own_same s)

    -- the phase of the Locks, with its repeats
    pub record LocksRun (rs : List ShardReplies) (log : Sight) (I J : ℕ → Sight) : Type 0 where
      pub moved : Moved K pieces alone lane log I log J
      pub shards : (s : ℕ) → LocksShard rs I J s

    pub locks_run : (log : Sight) (I M J : ℕ → Sight) (t repeats : ℕ) (parts : List (ℕ × List Entry)) (rs : List ShardReplies)
        → Open K lane number txs log t → ((s : ℕ) → is_concerned K txs s ≡ false → record_of 2 (I s).seen B ≡ None)
        → AreParts K txs parts → Locked alone (map (lock_call_of B t) parts) I M rs
        → AskedTimes (LockAnswer alone) (map (lock_call_of B t) parts) repeats M J → LocksRun rs log I J
    locks_run log I M J t repeats parts rs o none are l again =
        let cs = are_locks K txs B t parts are in
        let shards = locked_shard K alone lane number txs t I M rs (map (lock_call_of B t) parts) l.asked.answers none cs l.asked.each l.asked.others
        l.gathered in
        let q = locks_quiet K pieces alone lane number home txs log t repeats M J (map (lock_call_of B t) parts) cs (λ s c. (shards s).number_is c)
        again in
        record {
          moved = on log log log I M J (shards_moved K lane home pieces alone log I M
              (locks_step K pieces alone lane number home txs false t log I M (map (lock_call_of B t) parts) l.asked.answers o.prepare cs l.asked.each
              l.asked.others
              (locks_fine l.asked.answers (gathered_fine (map (lock_call_of B t) parts) l.asked.answers rs l.gathered.replies)))) q.moved;
          shards = λ s. locks_shard rs log I M J s (shards s) q;
        }
      where
        locks_fine : (answers : List (Result Replied NodeFault)) → Every Fine answers → Every (OkUnless false) answers
        locks_fine answers h = every_unless answers h

    -- from a Prepare on
    pub record PreparedRun (log log' : Sight) (I J : ℕ → Sight) (os : List Outcome) : Type 0 where
      pub replies : List ShardReplies
      pub os_is : os ≡ decided K txs replies
      pub committed : ℕ
      pub log_committed : Sight
      pub before_finish : ℕ → Sight
      pub commit : LogStep lane log log_committed (Commit committed B os)
      pub locked : (s : ℕ) → LocksShard replies I before_finish s
      pub rest : CommittedRun os log_committed log' before_finish J
      pub moved : Moved K pieces alone lane log I log' J

    -- the outcomes are those that the Commit names
    pub named_outcomes : (log : Sight) (os ds : List Outcome) (tc : ℕ) → (slot log.seen lane).number ≡ number
        → record_of 7 log.seen B ≡ Some (Commit tc B ds) → os ≡ outcomes_of log.seen (open_batch log.seen lane) → os ≡ ds
    named_outcomes log os ds tc n commit e = e ∙ ap (λ m. let b : Batch = record { lane = lane; number = m } in outcomes_of log.seen b) n
        ∙ ap outcomes_in commit

    pub prepared_run : (log log' : Sight) (I J : ℕ → Sight) (t repeats : ℕ) (parts : List (ℕ × List Entry)) (os : List Outcome)
        → Open K lane number txs log t
        → ((s kind : ℕ) → (kind ≡ 2) ⊎ (kind ≡ 3) ⊎ (kind ≡ 4) → is_concerned K txs s ≡ false → record_of kind (I s).seen B ≡ None)
        → AreParts K txs parts
        → ToldPrepared alone B t repeats parts log log' I J os → PreparedRun log log' I J os
    prepared_run log log' I J t repeats parts os o none are told =
        let l = locks_run log I told.after_lock told.before_decide t repeats parts told.replies o (λ s c. none s 2 (inl refl) c) are told.locks
        told.locks_again in
        let d = commit_ok K pieces alone lane number home txs log told.log_committed told.before_decide t o told.replies (λ s. (l.shards s).looks)
        told.committed told.decide in
        let e = named_outcomes told.log_committed os (decided K txs told.replies) told.committed d.0.stays.open_number d.1 told.outcomes in
        let r = committed_run told.log_committed log' told.before_decide J t t told.committed os repeats (map (lock_call_of B t) parts) d.0.stays
        (d.1 ∙ ap (λ q. Some (Commit told.committed B q)) (sym e)) (λ s. (l.shards s).looks.part_is)
        (λ s kind h c. same_record kind lane B (I s).seen (told.before_decide s).seen refl ((l.shards s).others c) ∙ none s kind (inr h) c)
        (are_locks K txs B t parts are) told.rest in
        record {
          replies = told.replies;
          os_is = e;
          committed = told.committed;
          log_committed = told.log_committed;
          before_finish = told.before_decide;
          commit = subst (λ q. LogStep lane log told.log_committed (Commit told.committed B q)) (sym e) d.0.step;
          locked = l.shards;
          rest = r;
          moved = on log log log' I told.before_decide J l.moved
              (on log told.log_committed log' told.before_decide told.before_decide J d.0.moved r.moved);
        }
