-- A whole new batch of a settled lane: exactly its records, and the lane is settled again.
use Rattle.std.proofs.Common.{◌≡◌, ◌⊎◌, inl, inr, ℕ, suc, ◌<◌, Bool, true, false, ◌&&◌, ◌==◌, if◌then◌else◌, List, [], ◌∷◌, ◌++◌, Some, None, refl}
use Rattle.std.proofs.Common.{sym, ap, ◌∙◌, subst, arith}
use Rattle.cbdc_model.specs.Records.{Batch, same_batch, Compact, Entry, Outcome, Record, Shape, tells_lane, kind_of, is_of, record_of, last_stamp}
use Rattle.cbdc_model.specs.Records.{stamp_in, Lock, Finish, Forget, Prepare, Commit, Discard, Done}
use Rattle.cbdc_model.specs.Slots.{slot, slot_stamp, Idle, InLock, InPrepare}
use Rattle.cbdc_model.specs.Outcomes.{decisions}
use Rattle.cbdc_model.specs.Ranges.{part}
use Rattle.cbdc_model.specs.Deciding.{replies_at, replies_in, reply_stamp, answered_with}
use Rattle.cbdc_model.specs.Sights.{Sight}
use Rattle.ledger_laws.proofs.Slots.{same_batch_self}
use Rattle.ledger_laws.proofs.Moves.{test_step}
use Rattle.lane_laws.specs.Batches.{own, Settled, BatchRecords, at_shard, BatchDone}
use Rattle.lane_laws.specs.Calls.{is_concerned, AreParts}
use Rattle.lane_laws.specs.Traces.{ToldPrepared, ToldBatch}
use Rattle.lane_laws.proofs.Own.{look, slot_own, stamp_own}
use Rattle.lane_laws.proofs.Views.{Moved, moved_on}
use Rattle.lane_laws.proofs.LogCalls.{LogStep, Open}
use Rattle.lane_laws.proofs.Preparing.{batch_of, prepare_ok}
use Rattle.lane_laws.proofs.Calls.{in_range}
use Rattle.lane_laws.proofs.Runs.{PreparedRun, prepared_run, same_record}

slot_front : (lane : ℕ) (L X : List Record) (r : Record) → own lane L ≡ r ∷ X → slot L lane ≡ slot (r ∷ X) lane
slot_front lane L X r e = slot_own lane L ∙ ap (λ K. slot K lane) e

stamp_front : (lane : ℕ) (L X : List Record) (r : Record) → own lane L ≡ r ∷ X → tells_lane lane r ≡ true → slot_stamp L lane ≡ stamp_in (Some r)
stamp_front lane L X r e i = stamp_own lane L ∙ ap (λ K. slot_stamp K lane) e ∙ first lane r X i
  where
    first : (lane : ℕ) (r : Record) (J : List Record) → tells_lane lane r ≡ true → slot_stamp (r ∷ J) lane ≡ stamp_in (Some r)
    first lane r J h = rw h

not_here : (kind : ℕ) (b : Batch) (r : Record) (J : List Record) → is_of b r ≡ false → record_of kind (r ∷ J) b ≡ record_of kind J b
not_here kind b r J h = test_step kind r J b (both (kind_of r == kind) (is_of b r) h)
  where
    both : (a c : Bool) → c ≡ false → (a && c) ≡ false
    both a c h = grind (arith, h)

differs : (lane k : ℕ) (b : Batch) → suc k < b.number → same_batch (batch_of lane k) b ≡ false
differs lane k b lt = numbers lane b.lane k b.number lt
  where
    numbers : (p q k n : ℕ) → suc k < n → ((p == q) && (suc k == n)) ≡ false
    numbers p q k n lt = grind (arith, lt)

same_number : (n : ℕ) → (n == n) ≡ true
same_number n = grind arith

which : (a : Bool) → (a ≡ true) ⊎ (a ≡ false)
which true = inl refl
which false = inr refl

in_prepare : InPrepare ≡ Idle → ⊥
in_prepare h = let z : InPrepare ≡ Idle = h in cc

pub opened : (K : Shape) (lane k : ℕ) (txs : List Compact) (log log' : Sight) (t : ℕ) → log.header.shape ≡ K
    → LogStep lane log log' (Prepare t (batch_of lane k) txs) → Open K lane (suc k) txs log' t
opened K lane k txs log log' t shape s = record {
  prepare = ap (λ L. record_of 6 L (batch_of lane k)) s.seen_is
      ∙ (let z : same_batch (batch_of lane k) (batch_of lane k) ≡ true = same_batch_self (batch_of lane k) in rw z);
  open_number = ap (λ L. (slot L lane).number) s.seen_is ∙ (let z : (lane == lane) ≡ true = same_number lane in rw z);
  busy = λ h. in_prepare (sym (ap (λ L. (slot L lane).phase) s.seen_is ∙ (let z : (lane == lane) ≡ true = same_number lane in rw z)) ∙ h);
  shape = s.shape ∙ shape;
}

module _ (K : Shape) (alone : Bool) (lane k : ℕ) (txs : List Compact) (log log1 log' : Sight) (I J : ℕ → Sight) (st : Settled K lane k log I) (t : ℕ)
    (os : List Outcome)
    (first : LogStep lane log log1 (Prepare t (batch_of lane k) txs)) (moved : Moved K (txs ∷ []) alone lane log I log1 I)
    (r : PreparedRun K (txs ∷ []) alone lane (suc k) st.home txs log1 log' I J os) where
  abbrev B : Batch
  B = batch_of lane k

  itself : (lane == lane) ≡ true
  itself = same_number lane

  abbrev pub recorded : BatchRecords
  recorded = record {
    batch = B;
    prepared = t;
    outcomes = os;
    committed = r.committed;
    discarded = r.rest.discarded;
    done = r.rest.ended;
    locked = λ s. reply_stamp (replies_at r.replies s);
    entries = λ s. answered_with (part K s 0 txs) (replies_in (replies_at r.replies s));
    finished = r.rest.fins;
    decisions = λ s. decisions os (part K s 0 txs);
    forgotten = r.rest.ends;
  }

  own_log : own lane log'.seen ≡ Done r.rest.ended B ∷ Discard r.rest.discarded B ∷ Commit r.committed B os ∷ Prepare t B txs ∷ own lane log.seen
  own_log = r.rest.log_own ∙ ap (λ L. Done r.rest.ended B ∷ Discard r.rest.discarded B ∷ L)
      (r.commit.own_is ∙ ap (λ L. Commit r.committed B os ∷ L) first.own_is)

  lock_added : (s : ℕ) → is_concerned K txs s ≡ true
      → own lane (r.before_finish s).seen ≡ Lock (reply_stamp (replies_at r.replies s)) B
      (answered_with (part K s 0 txs) (replies_in (replies_at r.replies s))) ∷ own lane (I s).seen
  lock_added s c = elim ((r.locked s).adds c) [
    | inl e ↦ e
    | inr n ↦ absurd (omega (arith, n, st.shard_number s))
  ]

  own_shard : (s : ℕ) → is_concerned K txs s ≡ true
      → own lane (J s).seen ≡ Forget (r.rest.ends s) B ∷ Finish (r.rest.fins s) B (decisions os (part K s 0 txs))
      ∷ Lock (reply_stamp (replies_at r.replies s)) B (answered_with (part K s 0 txs) (replies_in (replies_at r.replies s))) ∷ own lane (I s).seen
  own_shard s c = (r.rest.shards s).adds c in_lock
      ∙ ap (λ L. Forget (r.rest.ends s) B ∷ Finish (r.rest.fins s) B (decisions os (part K s 0 txs)) ∷ L) (lock_added s c)
    where
      in_lock : (slot (r.before_finish s).seen lane).phase ≡ InLock
      in_lock = ap (λ q. q.phase) (slot_front lane (r.before_finish s).seen (own lane (I s).seen)
          (Lock (reply_stamp (replies_at r.replies s)) B (answered_with (part K s 0 txs) (replies_in (replies_at r.replies s)))) (lock_added s c))
          ∙ (let z : (lane == lane) ≡ true = itself in rw z)

  own_other : (s : ℕ) → is_concerned K txs s ≡ false → own lane (J s).seen ≡ own lane (I s).seen
  own_other s c = (r.rest.shards s).others c ∙ (r.locked s).others c

  shard_grew : (s : ℕ) → own lane (J s).seen ≡ at_shard K recorded txs s ++ own lane (I s).seen
  shard_grew s = elim (is_concerned K txs s) as (λ c. is_concerned K txs s ≡ c
      → own lane (J s).seen ≡ (if c then Forget (r.rest.ends s) B ∷ Finish (r.rest.fins s) B (decisions os (part K s 0 txs))
      ∷ Lock (reply_stamp (replies_at r.replies s)) B (answered_with (part K s 0 txs) (replies_in (replies_at r.replies s))) ∷ []
      else []) ++ own lane (I s).seen) [
        | true ↦ λ c. own_shard s c
        | false ↦ λ c. own_other s c
      ] refl

  same_slot : (s : ℕ) → is_concerned K txs s ≡ false → slot (J s).seen lane ≡ slot (I s).seen lane
  same_slot s c = slot_own lane (J s).seen ∙ ap (λ L. slot L lane) (own_other s c) ∙ sym (slot_own lane (I s).seen)

  end_slot : slot log'.seen lane ≡ record { number = suc k; phase = Idle }
  end_slot = slot_front lane log'.seen (Discard r.rest.discarded B ∷ Commit r.committed B os ∷ Prepare t B txs ∷ own lane log.seen)
      (Done r.rest.ended B) own_log ∙ (let z : (lane == lane) ≡ true = itself in rw z)

  later : last_stamp log.seen < r.rest.ended
  later =
      let a = first.later in let b = first.newest in let c = r.commit.later in let d = r.commit.newest in let e = r.rest.later in
      omega (arith, a, b, c, d, e)

  abbrev shard_news : ℕ → List Record
  shard_news s = Forget (r.rest.ends s) B ∷ Finish (r.rest.fins s) B (decisions os (part K s 0 txs))
      ∷ Lock (reply_stamp (replies_at r.replies s)) B (answered_with (part K s 0 txs) (replies_in (replies_at r.replies s))) ∷ []

  settled_after : Settled K lane (suc k) log' J
  settled_after = record {
    home = st.home;
    shape = r.rest.shape ∙ r.commit.shape ∙ first.shape ∙ st.shape;
    number = ap (λ q. q.number) end_slot;
    idle = ap (λ q. q.phase) end_slot;
    shard_idle = λ s. elim (which (is_concerned K txs s)) [
      | inl c ↦ (r.rest.shards s).idle c
      | inr c ↦ ap (λ q. q.phase) (same_slot s c) ∙ st.shard_idle s
    ];
    shard_number = λ s. elim (which (is_concerned K txs s)) [
      | inl c ↦ (let n = (r.rest.shards s).number_is c in omega (arith, n))
      | inr c ↦ (let n : (slot (J s).seen lane).number ≡ (slot (I s).seen lane).number = ap (λ q. q.number) (same_slot s c) in
          omega (arith, n, st.shard_number s))
    ];
    shard_stamp = λ s. elim (which (is_concerned K txs s)) [
      | inl c ↦ (
          let f : slot_stamp (J s).seen lane ≡ r.rest.ends s
          = stamp_front lane (J s).seen (Finish (r.rest.fins s) B (decisions os (part K s 0 txs))
          ∷ Lock (reply_stamp (replies_at r.replies s)) B (answered_with (part K s 0 txs) (replies_in (replies_at r.replies s)))
          ∷ own lane (I s).seen)
          (Forget (r.rest.ends s) B) (own_shard s c) itself in
          let a = r.rest.above s (in_range K txs s c) in let e = r.rest.newest in omega (arith, f, a, e))
      | inr c ↦ (
          let f : slot_stamp (J s).seen lane ≡ slot_stamp (I s).seen lane =
          stamp_own lane (J s).seen ∙ ap (λ L. slot_stamp L lane) (own_other s c) ∙ sym (stamp_own lane (I s).seen) in
          let e = r.rest.newest in omega (arith, f, e, st.shard_stamp s, later))
    ];
    fresh_log = λ kind b h lt.
        let z : same_batch B b ≡ false = differs lane k b lt in
        look kind lane b log'.seen log.seen (Done r.rest.ended B ∷ Discard r.rest.discarded B ∷ Commit r.committed B os ∷ Prepare t B txs ∷ [])
        own_log h (st.fresh_log kind b h (omega (arith, lt)))
        ∙ not_here kind b (Done r.rest.ended B) (Discard r.rest.discarded B ∷ Commit r.committed B os ∷ Prepare t B txs ∷ []) z
        ∙ not_here kind b (Discard r.rest.discarded B) (Commit r.committed B os ∷ Prepare t B txs ∷ []) z
        ∙ not_here kind b (Commit r.committed B os) (Prepare t B txs ∷ []) z ∙ not_here kind b (Prepare t B txs) [] z;
    fresh_shard = λ s kind b h lt.
        let z : same_batch B b ≡ false = differs lane k b lt in
        let old : record_of kind (I s).seen b ≡ None = st.fresh_shard s kind b h (omega (arith, lt)) in
        elim (which (is_concerned K txs s)) [
          | inr c ↦ same_record kind lane b (I s).seen (J s).seen h (own_other s c) ∙ old
          | inl c ↦ look kind lane b (J s).seen (I s).seen (shard_news s) (own_shard s c) h old
              ∙ not_here kind b (Forget (r.rest.ends s) B)
              (Finish (r.rest.fins s) B (decisions os (part K s 0 txs))
              ∷ Lock (reply_stamp (replies_at r.replies s)) B (answered_with (part K s 0 txs) (replies_in (replies_at r.replies s))) ∷ []) z
              ∙ not_here kind b (Finish (r.rest.fins s) B (decisions os (part K s 0 txs)))
              (Lock (reply_stamp (replies_at r.replies s)) B (answered_with (part K s 0 txs) (replies_in (replies_at r.replies s))) ∷ []) z
              ∙ not_here kind b (Lock (reply_stamp (replies_at r.replies s)) B
              (answered_with (part K s 0 txs) (replies_in (replies_at r.replies s)))) [] z
        ];
  }

  pub done_so : BatchDone K alone lane k txs log I log' J B os
  done_so = record {
    records = recorded;
    grew = record { log_is = own_log; shard_is = shard_grew };
    batch = refl;
    outcomes = refl;
    made = all.made;
    log_same = all.log_same;
    shard_same = all.shard_same;
    settled = settled_after;
  }
    where
      all : Moved K (txs ∷ []) alone lane log I log' J
      all = moved_on K (txs ∷ []) alone lane log log1 log' I I J moved r.moved

-- the whole batch, from what was told of its calls
pub batch_done : (K : Shape) (alone : Bool) (lane k : ℕ) (txs : List Compact) (repeats : ℕ) (parts : List (ℕ × List Entry)) (log log' : Sight)
    (I J : ℕ → Sight) (b : Batch) (os : List Outcome)
    → Settled K lane k log I → AreParts K txs parts → ToldBatch alone lane txs repeats parts log log' I J b os
    → BatchDone K alone lane k txs log I log' J b os
batch_done K alone lane k txs repeats parts log log' I J b os st are told =
    let p = prepare_ok K alone lane k st.home txs log told.log_prepared I st.number b told.prepared told.prepare in
    subst (λ c. BatchDone K alone lane k txs log I log' J c os) (sym p.0)
    (done_so K alone lane k txs log told.log_prepared log' I J st told.prepared os p.2 p.1
    (prepared_run K (txs ∷ []) alone lane (suc k) st.home txs told.log_prepared log' I J told.prepared repeats parts os
    (opened K lane k txs log told.log_prepared told.prepared st.shape p.2)
    (λ s kind h c. st.fresh_shard s kind (batch_of lane k) refl (omega arith)) are
    (subst (λ c. ToldPrepared alone c told.prepared repeats parts told.log_prepared log' I J os) p.0 told.rest)))
