-- The calls at a lane's coordinator: what each leaves there.
use Rattle.std.proofs.Common.{◌≡◌, ◌⊎◌, inl, inr, ℕ, suc, ◌<◌, ◌≤◌, max, Bool, true, false, ◌&&◌, ◌==◌, not, nat_lt, List, ◌∷◌, length, Some, None}
use Rattle.std.proofs.Common.{is_some, Result, Ok, Err, refl, sym, ap, ◌∙◌, subst, arith}
use Rattle.cbdc_types.specs.declared.calls.NodeFault.{NodeFault}
use Rattle.cbdc_types.specs.declared.calls.NodeFault.TheVariants.{Broken, Refused as Refuses, ClockEnd, Full, DiskFault, Memory}
use Rattle.cbdc_types.specs.declared.batch.ShardReplies.{ShardReplies}
use Rattle.cbdc_model.specs.Records.{Batch, same_batch, Compact, Outcome, Record, Shape, tells_lane, record_of, lock_of, txs_of, last_stamp, stamp_of}
use Rattle.cbdc_model.specs.Records.{stamp_in, txs_in, entries_in, Prepare, Commit, Discard, Done}
use Rattle.cbdc_model.specs.Slots.{slot, Idle, InCommit, InDiscard}
use Rattle.cbdc_model.specs.Replies.{entries}
use Rattle.cbdc_model.specs.Causes.{IsCaused, IsStamped, AllHave, at_shards, last_of, greatest}
use Rattle.cbdc_model.specs.Outcomes.{outcomes}
use Rattle.cbdc_model.specs.Ranges.{shard_node, home_of, part, is_no_part, Concerned}
use Rattle.cbdc_model.specs.Deciding.{decided, reply_cause, replies_at, replies_in, reply_stamp, answered_with}
use Rattle.cbdc_model.specs.World.{replaced}
use Rattle.cbdc_model.specs.Lanes.{Holds}
use Rattle.cbdc_model.specs.Next.{next_stamp}
use Rattle.cbdc_model.specs.Due.{Due, Writes, unless_broken, if_early, last_late, open_batch, decide_due, commit_record, discard_due, discard_record}
use Rattle.cbdc_model.specs.Due.{done_due, done_record}
use Rattle.cbdc_model.specs.Sights.{Sight, Finds, Told}
use Rattle.ledger_laws.proofs.Slots.{same_batch_self}
use Rattle.ledger_laws.proofs.Finds.{replaced_at, replaced_away}
use Rattle.lane_laws.specs.Batches.{own, view, IsRisen, TakesRoom}
use Rattle.lane_laws.specs.Calls.{is_concerned}
use Rattle.lane_laws.specs.Faults.{IsAnswered}
use Rattle.lane_laws.specs.Answers.{DecideAnswer, AreRepliedTo}
use Rattle.lane_laws.proofs.Own.{own_in, record_own, finds_own, finds_slot, finds_record}
use Rattle.lane_laws.proofs.Steps.{StepAt}
use Rattle.lane_laws.proofs.Views.{Moved, Fell, view_home, view_shard, apart_home, log_moved, log_fell}
use Rattle.lane_laws.proofs.Dues.{past, late_wrote, late_stored, late_unbroken, late_full, late_end}
use Rattle.lane_laws.proofs.Tellings.{Wrote, Stood, Stopped, FaultBy, told_ok, told_err, answered}
use Rattle.lane_laws.proofs.Asked.{call_step}

pub concerned_is : (K : Shape) (txs : List Compact) (s : ℕ) → Concerned K txs s → is_concerned K txs s ≡ true
concerned_is K txs s c = numbers s K.shards (is_no_part (part K s 0 txs)) c.0 c.1
  where
    numbers : (s n : ℕ) (a : Bool) → s < n → a ≡ false → (nat_lt s n && not a) ≡ true
    numbers s n a lt h = grind (arith, h)

-- the coordinator's journal grew by this record of the lane
pub record LogStep (lane : ℕ) (log log' : Sight) (r : Record) : Type 0 where
  pub seen : List Record
  pub seen_is : log'.seen ≡ r ∷ seen
  pub own_is : own lane log'.seen ≡ r ∷ own lane log.seen
  pub newest : last_stamp log'.seen ≡ stamp_of r
  pub later : last_stamp log.seen < stamp_of r
  pub shape : log'.header.shape ≡ log.header.shape

-- a call at the coordinator failed, and left its journal as it was
pub record LogFailed (lane : ℕ) (log log' : Sight) (f : NodeFault) : Type 0 where
  pub same : own lane log'.seen ≡ own lane log.seen
  pub risen : IsRisen f log'

pub wrote_step : {A : Type 0} (alone : Bool) (lane : ℕ) (by : List Record → Due A) (log log' : Sight) (a : A) (r : Record) (cause : ℕ)
    (w : Wrote alone lane by log log' a) → w.what ≡ r
    → tells_lane lane r ≡ true → stamp_of r ≡ next_stamp w.found cause → LogStep lane log log' r
wrote_step alone lane by log log' a r cause w is i stamp = record {
  seen = w.found;
  seen_is = at_end;
  own_is = ap (λ L. own lane L) at_end ∙ own_in lane r w.found i ∙ ap (λ L. r ∷ L) (finds_own alone lane log.seen w.found w.finds);
  newest = ap last_stamp at_end;
  later = above (last_stamp log.seen) (last_stamp w.found) cause (stamp_of r) w.later stamp;
  shape = ap (λ h. h.shape) w.node.header;
}
  where
    at_end : log'.seen ≡ r ∷ w.found
    at_end = w.seen ∙ ap (λ q. q ∷ w.found) is

    above : (o f c n : ℕ) → o ≤ f → n ≡ suc (max f c) → o < n
    above o f c n h e = grind (arith, h, e)

pub stopped_same : {A : Type 0} (alone : Bool) (lane : ℕ) (memory : Bool) (by : List Record → Due A) (log log' : Sight) (f : NodeFault)
    → Stopped alone lane memory by log log' f → LogFailed lane log log' f
stopped_same alone lane memory by log log' f s = record
    { same = ap (λ L. own lane L) s.seen ∙ finds_own alone lane log.seen s.found s.finds; risen = s.risen }

-- a call behind the Locks: its record is `named` of its stamp
module _ (K : Shape) (pieces : List (List Compact)) (alone : Bool) (lane : ℕ) (home : home_of K lane < K.coordinators) (log log' : Sight)
    (shards : ℕ → Sight) (m : ℕ) (next : List Record → Record) (named : ℕ → Record)
    (is : (found : List Record) → Finds alone lane log.seen found → next found ≡ named (next_stamp found m))
    (lane_is : (n : ℕ) → tells_lane lane (named n) ≡ true) (stamp_is : (n : ℕ) → stamp_of (named n) ≡ n)
    (holds : (n : ℕ) → Holds pieces (named n)) (caused : (found : List Record) → Finds alone lane log.seen found
    → IsCaused K (replaced (view K lane log shards) (home_of K lane) found) (home_of K lane) (named (next_stamp found m))) where
  abbrev by : List Record → Due ℕ
  by L = if_early last_late (next_stamp L m) (Writes (next_stamp L m) (next L))

  step : (fails : Bool) (answer : Result ℕ NodeFault) → ((fails ≡ true) ⊎ ((x : ℕ) × (answer ≡ Ok x)))
      → Told alone lane false (λ broken J. unless_broken broken (by J)) log log' answer
      → StepAt K pieces alone lane fails (view K lane log shards) (home_of K lane) log.flight log'.flight log'.seen
  step fails answer good told = call_step K pieces alone lane fails false (view K lane log shards) (home_of K lane) log log' by next
      (view_home K lane home log shards (home_of K lane) refl)
      (λ L s e. late_unbroken (next_stamp L m) (next_stamp L m) (next L) s e)
      (λ L a r e. (late_wrote (next_stamp L m) (next_stamp L m) a (next L) r e).1)
      (λ found f. (
        subst (λ r. tells_lane lane r ≡ true) (sym (is found f)) (lane_is (next_stamp found m)),
        subst (λ r. Holds pieces r) (sym (is found f)) (holds (next_stamp found m)),
        subst (λ r. IsCaused K (replaced (view K lane log shards) (home_of K lane) found) (home_of K lane) r) (sym (is found f)) (caused found f),
      ))
      answer good told

  pub late_ok : (a : ℕ) → Told alone lane false (λ broken J. unless_broken broken (by J)) log log' (Ok a)
      → Moved K pieces alone lane log shards log' shards × LogStep lane log log' (named a)
  late_ok a told = (
    log_moved K lane home pieces alone log log' shards (step false (Ok a) (inr (a, refl)) told),
    go (told_ok alone lane false by log log' a told),
  )
    where
      go : Stood alone lane by log log' a ⊎ Wrote alone lane by log log' a → LogStep lane log log' (named a)
      go (inl s) = absurd (late_stored (next_stamp s.found m) (next_stamp s.found m) a (next s.found) s.answers)
      go (inr w) =
          let e = late_wrote (next_stamp w.found m) (next_stamp w.found m) a (next w.found) w.what w.writes in
          wrote_step alone lane by log log' a (named a) m w (e.1 ∙ is w.found w.finds ∙ ap named (sym e.0)) (lane_is a) (stamp_is a ∙ e.0)

  -- its stamp is later than its cause
  pub late_above : (a : ℕ) → Told alone lane false (λ broken J. unless_broken broken (by J)) log log' (Ok a) → m < a
  late_above a told = go (told_ok alone lane false by log log' a told)
    where
      above : (l m n : ℕ) → n ≡ suc (max l m) → m < n
      above l m n e = grind (arith, e)

      go : Stood alone lane by log log' a ⊎ Wrote alone lane by log log' a → m < a
      go (inl s) = absurd (late_stored (next_stamp s.found m) (next_stamp s.found m) a (next s.found) s.answers)
      go (inr w) = above (last_stamp w.found) m a (late_wrote (next_stamp w.found m) (next_stamp w.found m) a (next w.found) w.what w.writes).0

  pub late_err : (f : NodeFault) → Told alone lane false (λ broken J. unless_broken broken (by J)) log log' (Err f)
      → Fell K pieces alone lane log shards log' shards × LogFailed lane log log' f × (TakesRoom f → ⊥)
      × IsAnswered false (by log'.seen) log' f
  late_err f told =
      let s = told_err alone lane false by log log' f (λ L n e. late_unbroken (next_stamp L m) (next_stamp L m) (next L) n e) told in (
        log_fell K lane home pieces alone true log log' shards (step true (Err f) (inl refl) told),
        stopped_same alone lane false by log log' f s,
        roomless f s.found s.why,
        answered alone lane false by log log' f s,
      )
    where
      roomless : (f : NodeFault) (found : List Record) → FaultBy false (by found) f → TakesRoom f → ⊥
      roomless (Broken since) found w t = t
      roomless (Refuses r) found w t = t
      roomless (ClockEnd stamp) found w t = let g = late_end (next_stamp found m) (next_stamp found m) (next found) stamp w in omega (arith, g, t)
      roomless (Full used need capacity) found w t = late_full (next_stamp found m) (next_stamp found m) (next found) used need capacity w
      roomless DiskFault found w t = t
      roomless Memory found w t = let z : false ≡ true = w in cc

module _ (K : Shape) (lane number : ℕ) (txs : List Compact) where
  -- the batch
  abbrev pub named_batch : Batch
  named_batch = record { lane = lane; number = number }

  -- what the coordinator's journal has of the open batch
  pub record Open (log : Sight) (t : ℕ) : Type 0 where
    pub prepare : record_of 6 log.seen named_batch ≡ Some (Prepare t named_batch txs)
    pub open_number : (slot log.seen lane).number ≡ number
    pub busy : (slot log.seen lane).phase ≡ Idle → ⊥
    pub shape : log.header.shape ≡ K

  -- what the shards have of a kind: those that are concerned, and no others
  pub record Looks (kind : ℕ) (stamps : ℕ → ℕ) (shards : ℕ → Sight) : Type 0 where
    pub some : (s : ℕ) → is_concerned K txs s ≡ true → is_some (record_of kind (shards s).seen named_batch) ≡ true
    pub stamp : (s : ℕ) → stamp_in (record_of kind (shards s).seen named_batch) ≡ stamps s

  -- what they have of Lock, by the replies
  pub record LooksLock (rs : List ShardReplies) (shards : ℕ → Sight) (s : ℕ) : Type 0 where
    pub entries_are : entries_in (record_of 2 (shards s).seen named_batch) ≡ answered_with (part K s 0 txs) (replies_in (replies_at rs s))
    pub stamp_is : stamp_in (record_of 2 (shards s).seen named_batch) ≡ reply_stamp (replies_at rs s)
    pub some : is_concerned K txs s ≡ true → is_some (record_of 2 (shards s).seen named_batch) ≡ true
    pub part_is : is_concerned K txs s ≡ true → entries (lock_of (shards s).seen named_batch) ≡ part K s 0 txs
    pub replied : s < K.shards → length (replies_in (replies_at rs s)) ≡ length (part K s 0 txs)

module _ (K : Shape) (pieces : List (List Compact)) (alone : Bool) (lane number : ℕ) (home : home_of K lane < K.coordinators) (txs : List Compact)
  where
    abbrev B : Batch
    B = record { lane = lane; number = number }

    same_number : (n : ℕ) → (n == n) ≡ true
    same_number n = grind arith

    self : same_batch B B ≡ true
    self = same_batch_self B

    shard_read : (log : Sight) (shards : ℕ → Sight) (s : ℕ) (found : List Record)
        → replaced (view K lane log shards) (home_of K lane) found (shard_node K s) ≡ (shards s).seen
    shard_read log shards s found = replaced_away (view K lane log shards) (home_of K lane) found (shard_node K s) (apart_home K lane home s)
        ∙ view_shard K lane home log shards s

    open_is : (log : Sight) (found : List Record) → Finds alone lane log.seen found → (slot log.seen lane).number ≡ number → open_batch found lane ≡ B
    open_is log found f n = λ i. record { lane = lane; number = (ap (λ q. q.number) (finds_slot alone lane log.seen found f) ∙ n) i }

    module _ (log : Sight) (shards : ℕ → Sight) (t : ℕ) (o : Open K lane number txs log t) (found : List Record) (f : Finds alone lane log.seen found)
      where
        here : replaced (view K lane log shards) (home_of K lane) found (home_of K lane) ≡ found
        here = replaced_at (view K lane log shards) (home_of K lane) found (home_of K lane) refl

        txs_found : txs_of found B ≡ txs
        txs_found = ap txs_in (finds_record alone 6 B log.seen found f ∙ o.prepare)

        txs_are : txs_of (replaced (view K lane log shards) (home_of K lane) found (home_of K lane)) B ≡ txs
        txs_are = ap (λ L. txs_of L B) here ∙ txs_found

        at_is : (kind s : ℕ) → at_shards K (replaced (view K lane log shards) (home_of K lane) found) kind B s ≡ record_of kind (shards s).seen B
        at_is kind s = ap (λ L. record_of kind L B) (shard_read log shards s found)

        have : (kind : ℕ) (stamps : ℕ → ℕ) → Looks K lane number txs kind stamps shards
            → AllHave K (replaced (view K lane log shards) (home_of K lane) found) kind B
        have kind stamps looks s c = subst (λ q. is_some q ≡ true) (sym (at_is kind s))
            (looks.some s (concerned_is K txs s (subst (λ ts. Concerned K ts s) txs_are c)))

        stamped : (kind m : ℕ) (stamps : ℕ → ℕ) → Looks K lane number txs kind stamps shards → m ≡ greatest stamps K.shards
            → IsStamped (next_stamp found m) (replaced (view K lane log shards) (home_of K lane) found (home_of K lane))
            (last_of K (replaced (view K lane log shards) (home_of K lane) found) kind B)
        stamped kind m stamps looks m_is = ap (λ n. next_stamp found n) m_is
            ∙ sym (λ i. suc (max (last_stamp (here i)) (greatest (λ s. (ap stamp_in (at_is kind s) ∙ looks.stamp s) i) K.shards)))

        commit_caused : (rs : List ShardReplies) → ((s : ℕ) → LooksLock K lane number txs rs shards s)
            → IsCaused K (replaced (view K lane log shards) (home_of K lane) found) (home_of K lane)
            (Commit (next_stamp found (reply_cause K rs)) B (decided K txs rs))
        commit_caused rs looks = (
          λ s c. subst (λ q. is_some q ≡ true) (sym (at_is 2 s)) ((looks s).some (concerned_is K txs s (subst (λ ts. Concerned K ts s) txs_are c))),
          sym (λ i. outcomes (λ s. (ap entries_in (at_is 2 s) ∙ (looks s).entries_are) i) K.shards 0 txs)
              ∙ sym (ap (λ ts. outcomes (λ s. entries_in (at_shards K (replaced (view K lane log shards) (home_of K lane) found) 2 B s)) K.shards 0
              ts)
              txs_are),
          sym (λ i. suc (max (last_stamp (here i)) (greatest (λ s. (ap stamp_in (at_is 2 s) ∙ (looks s).stamp_is) i) K.shards))),
        )

        commit_named : (rs : List ShardReplies) → commit_record K lane rs found ≡ Commit (next_stamp found (reply_cause K rs)) B (decided K txs rs)
        commit_named rs =
            let b : open_batch found lane ≡ B = open_is log found f o.open_number in
            λ i. Commit (next_stamp found (reply_cause K rs)) (b i)
            ((ap (λ c. decided K (txs_of found c) rs) b ∙ ap (λ ts. decided K ts rs) txs_found) i)

    commit_phase : (L : List Record) (tc : ℕ) (os : List Outcome) → (slot (Commit tc B os ∷ L) lane).phase ≡ InCommit
    commit_phase L tc os = let z : (lane == lane) ≡ true = same_number lane in rw z

    discard_phase : (L : List Record) (td : ℕ) → (slot (Discard td B ∷ L) lane).phase ≡ InDiscard
    discard_phase L td = let z : (lane == lane) ≡ true = same_number lane in rw z

    in_commit : InCommit ≡ Idle → ⊥
    in_commit h = let z : InCommit ≡ Idle = h in cc

    in_discard : InDiscard ≡ Idle → ⊥
    in_discard h = let z : InDiscard ≡ Idle = h in cc

    -- the batch stays open behind a record that is no Prepare
    still_open : (log log' : Sight) (t : ℕ) (r : Record) → Open K lane number txs log t → LogStep lane log log' r
        → ((L : List Record) → record_of 6 (r ∷ L) B ≡ record_of 6 L B) → ((L : List Record) → (slot (r ∷ L) lane).number ≡ number)
        → ((L : List Record) → (slot (r ∷ L) lane).phase ≡ Idle → ⊥) → Open K lane number txs log' t
    still_open log log' t r o s past at busy = record {
      prepare = record_own' ∙ o.prepare;
      open_number = ap (λ L. (slot L lane).number) s.seen_is ∙ at s.seen;
      busy = λ h. busy s.seen (sym (ap (λ L. (slot L lane).phase) s.seen_is) ∙ h);
      shape = s.shape ∙ o.shape;
    }
      where
        record_own' : record_of 6 log'.seen B ≡ record_of 6 log.seen B
        record_own' = record_own 6 B log'.seen ∙ ap (λ L. record_of 6 L B) s.own_is ∙ past (own lane log.seen) ∙ sym (record_own 6 B log.seen)

    -- a call behind the Locks that went well, and one that failed
    pub record LogDone (log log' : Sight) (shards : ℕ → Sight) (t : ℕ) (r : Record) : Type 0 where
      pub moved : Moved K pieces alone lane log shards log' shards
      pub step : LogStep lane log log' r
      pub stays : Open K lane number txs log' t

    abbrev pub LogFell : (List Record → Due ℕ) → Sight → Sight → (ℕ → Sight) → NodeFault → Type 0
    LogFell due log log' shards f = Fell K pieces alone lane log shards log' shards × LogFailed lane log log' f × (TakesRoom f → ⊥)
        × IsAnswered false (due log'.seen) log' f

    module _ (log log' : Sight) (shards : ℕ → Sight) (t : ℕ) (o : Open K lane number txs log t) where
      -- Commit
      module _ (rs : List ShardReplies) (looks : (s : ℕ) → LooksLock K lane number txs rs shards s) where
        abbrev committed : ℕ → Record
        committed n = Commit n B (decided K txs rs)

        all_replied : AreRepliedTo log.header.shape (txs_of log.seen (open_batch log.seen lane)) rs
        all_replied =
            let b : open_batch log.seen lane ≡ B = λ i. record { lane = lane; number = o.open_number i } in
            let t : txs_of log.seen (open_batch log.seen lane) ≡ txs = ap (λ c. txs_of log.seen c) b ∙ ap txs_in o.prepare in
            subst (λ k. AreRepliedTo k (txs_of log.seen (open_batch log.seen lane)) rs) (sym o.shape)
            (subst (λ ts. AreRepliedTo K ts rs) (sym t) (λ s lt. (looks s).replied lt))

        decide_told : (answer : Result ℕ NodeFault) → DecideAnswer alone lane rs log log' answer
            → Told alone lane false (decide_due K lane rs) log log' answer
        decide_told answer told = subst (λ k. Told alone lane false (decide_due k lane rs) log log' answer) o.shape (told all_replied)

        pub commit_ok : (tc : ℕ) → DecideAnswer alone lane rs log log' (Ok tc)
            → LogDone log log' shards t (Commit tc B (decided K txs rs)) × (record_of 7 log'.seen B ≡ Some (Commit tc B (decided K txs rs)))
        commit_ok tc told =
            let d = late_ok K pieces alone lane home log log' shards (reply_cause K rs) (λ L. commit_record K lane rs L)
            (λ n. Commit n B (decided K txs rs)) (λ found f. commit_named log shards t o found f rs) (λ n. same_number lane) (λ n. refl) (λ n. tt)
            (λ found f. commit_caused log shards t o found f rs looks) tc (decide_told (Ok tc) told) in (
              record {
                moved = d.0;
                step = d.1;
                stays = still_open log log' t (Commit tc B (decided K txs rs)) o d.1 (λ L. refl)
                    (λ L. let z : (lane == lane) ≡ true = same_number lane in rw z)
                    (λ L h. in_commit (sym (commit_phase L tc (decided K txs rs)) ∙ h));
              },
              ap (λ L. record_of 7 L B) d.1.seen_is ∙ (let z : same_batch B B ≡ true = self in rw z),
            )

        pub commit_above : (tc : ℕ) → DecideAnswer alone lane rs log log' (Ok tc) → reply_cause K rs < tc
        commit_above tc told = late_above K pieces alone lane home log log' shards (reply_cause K rs) (λ L. commit_record K lane rs L)
            (λ n. Commit n B (decided K txs rs)) (λ found f. commit_named log shards t o found f rs) (λ n. same_number lane) (λ n. refl) (λ n. tt)
            (λ found f. commit_caused log shards t o found f rs looks) tc (decide_told (Ok tc) told)

        pub commit_err : (f : NodeFault) → DecideAnswer alone lane rs log log' (Err f) → LogFell (λ L. decide_due K lane rs None L) log log' shards f
        commit_err f told = late_err K pieces alone lane home log log' shards (reply_cause K rs) (λ L. commit_record K lane rs L)
            (λ n. Commit n B (decided K txs rs)) (λ found f. commit_named log shards t o found f rs) (λ n. same_number lane) (λ n. refl) (λ n. tt)
            (λ found f. commit_caused log shards t o found f rs looks) f (decide_told (Err f) told)

      -- Discard
      module _ (m : ℕ) (stamps : ℕ → ℕ) (looks : Looks K lane number txs 3 stamps shards) (greatest_is : m ≡ greatest stamps K.shards) where
        discard_named : (found : List Record) → Finds alone lane log.seen found → discard_record lane m found ≡ Discard (next_stamp found m) B
        discard_named found f = ap (λ b. Discard (next_stamp found m) b) (open_is log found f o.open_number)

        pub discard_ok : (td : ℕ) → Told alone lane false (discard_due lane m) log log' (Ok td)
            → LogDone log log' shards t (Discard td B) × (record_of 8 log'.seen B ≡ Some (Discard td B))
        discard_ok td told =
            let d = late_ok K pieces alone lane home log log' shards m (λ L. discard_record lane m L) (λ n. Discard n B) discard_named
            (λ n. same_number lane) (λ n. refl) (λ n. tt)
            (λ found f. (have log shards t o found f 3 stamps looks, stamped log shards t o found f 3 m stamps looks greatest_is)) td told in (
              record {
                moved = d.0;
                step = d.1;
                stays = still_open log log' t (Discard td B) o d.1 (λ L. refl) (λ L. let z : (lane == lane) ≡ true = same_number lane in rw z)
                    (λ L h. in_discard (sym (discard_phase L td) ∙ h));
              },
              ap (λ L. record_of 8 L B) d.1.seen_is ∙ (let z : same_batch B B ≡ true = self in rw z),
            )

        pub discard_above : (td : ℕ) → Told alone lane false (discard_due lane m) log log' (Ok td) → m < td
        discard_above td told = late_above K pieces alone lane home log log' shards m (λ L. discard_record lane m L) (λ n. Discard n B) discard_named
            (λ n. same_number lane) (λ n. refl) (λ n. tt)
            (λ found f. (have log shards t o found f 3 stamps looks, stamped log shards t o found f 3 m stamps looks greatest_is)) td told

        pub discard_err : (f : NodeFault) → Told alone lane false (discard_due lane m) log log' (Err f)
            → LogFell (λ L. discard_due lane m None L) log log' shards f
        discard_err f told = late_err K pieces alone lane home log log' shards m (λ L. discard_record lane m L) (λ n. Discard n B) discard_named
            (λ n. same_number lane) (λ n. refl) (λ n. tt)
            (λ found f. (have log shards t o found f 3 stamps looks, stamped log shards t o found f 3 m stamps looks greatest_is)) f told

      -- Done
      module _ (m : ℕ) (stamps : ℕ → ℕ) (looks : Looks K lane number txs 4 stamps shards) (greatest_is : m ≡ greatest stamps K.shards) where
        done_named : (found : List Record) → Finds alone lane log.seen found → done_record lane m found ≡ Done (next_stamp found m) B
        done_named found f = ap (λ b. Done (next_stamp found m) b) (open_is log found f o.open_number)

        pub done_ok : (te : ℕ) → Told alone lane false (done_due lane m) log log' (Ok te)
            → Moved K pieces alone lane log shards log' shards × LogStep lane log log' (Done te B)
        done_ok te told = late_ok K pieces alone lane home log log' shards m (λ L. done_record lane m L) (λ n. Done n B) done_named
            (λ n. same_number lane) (λ n. refl) (λ n. tt)
            (λ found f. (have log shards t o found f 4 stamps looks, stamped log shards t o found f 4 m stamps looks greatest_is)) te told

        pub done_err : (f : NodeFault) → Told alone lane false (done_due lane m) log log' (Err f)
            → LogFell (λ L. done_due lane m None L) log log' shards f
        done_err f told = late_err K pieces alone lane home log log' shards m (λ L. done_record lane m L) (λ n. Done n B) done_named
            (λ n. same_number lane) (λ n. refl) (λ n. tt)
            (λ found f. (have log shards t o found f 4 stamps looks, stamped log shards t o found f 4 m stamps looks greatest_is)) f told

        -- and its stamp is later than the shards' last ones
        pub done_above : (te : ℕ) → Told alone lane false (done_due lane m) log log' (Ok te) → m < te
        done_above te told = late_above K pieces alone lane home log log' shards m (λ L. done_record lane m L) (λ n. Done n B) done_named
            (λ n. same_number lane) (λ n. refl) (λ n. tt)
            (λ found f. (have log shards t o found f 4 stamps looks, stamped log shards t o found f 4 m stamps looks greatest_is)) te told
