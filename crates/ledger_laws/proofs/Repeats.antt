-- A call whose cause stands is answered by a record, a stored answer or Stale.
use Rattle.std.proofs.Common.{if◌then◌else◌, ◌≡◌, ◌⊎◌, inl, inr, ℕ, suc, ◌+◌, ◌<◌, ◌≤◌, ◌/◌, Bool, true, false, ◌&&◌, List, [], ◌∷◌, ◌++◌, Some}
use Rattle.std.proofs.Common.{is_some, refl, sym, ap, ◌∙◌, subst, arith}
use Rattle.cbdc_model.specs.After.{FitsReplies}
use Rattle.cbdc_model.specs.Causes.{at_shards}
use Rattle.cbdc_model.specs.History.{first_rows, Minted}
use Rattle.cbdc_model.specs.Outcomes.{decisions, won_at, reply_at}
use Rattle.cbdc_model.specs.Ranges.{shard_node, part, Concerned, on_shard, is_empty}
use Rattle.cbdc_model.specs.Records.{Shape, Batch, Compact, Outcome, Reply, Answered, Entry, Record, Row, journal, record_of, kind_of, is_held}
use Rattle.cbdc_model.specs.Records.{stamp_of, stamp_in, entries_in, txs_in, outcomes_in, decisions_in, Genesis, Finish, Forget, Start, Prepare}
use Rattle.cbdc_model.specs.Records.{Commit, Discard, Done, lock_of, txs_of, is_of, Upgrade, Carry, CarryStart, Seal}
use Rattle.cbdc_model.specs.Replies.{entries}
use Rattle.cbdc_model.specs.Slots.{slot, slot_stamp, Idle, InLock, InFinish, InPrepare, InCommit, InDiscard}
use Rattle.ledger_laws.proofs.Next.{has_lock, has_finish, has_prepare, has_forget, Steady}
use Rattle.ledger_laws.proofs.Answered.{LockAnswered, FinishAnswered, ForgetAnswered, lock_stale, lock_stored, lock_appends, finish_stale}
use Rattle.ledger_laws.proofs.Answered.{finish_stored, finish_appends, forget_stale, forget_stored, forget_appends}
use Rattle.ledger_laws.proofs.More.{has_done}
use Rattle.ledger_laws.proofs.Rows.{Structure, at, away, at_node, head_at, head_away}
use Rattle.ledger_laws.proofs.Lookups.{true_false, none_found}
use Rattle.ledger_laws.proofs.Parts.{Agrees, part_entry, first_is, entries-cons, entries-nil, outcome_held, won_at-outcomes}
use Rattle.ledger_laws.proofs.First.{AllFirst, journal_first, all_first}
use Rattle.ledger_laws.proofs.Moves.{none_of, not_empty, all_structure, all_more}
use Rattle.ledger_laws.proofs.Recovered.{all_dones, all_phases, done_forgot}
use Rattle.ledger_laws.proofs.Standing.{Facts, standing}
use Rattle.ledger_laws.proofs.ByKind.{found_finish, found_done, test_batch, found_passes}
use Rattle.ledger_laws.proofs.Order.{OrderOk, next_order}
use Rattle.ledger_laws.proofs.Last.{LastIs, nothing_yet, begun, of_kind, last_is, slot_by, phase_stamp}
use Rattle.ledger_laws.proofs.Begun.{not_begun}

first_order : (J : List Record) → AllFirst J → OrderOk J
first_order J first = record {
  stamps_le = λ kind b. zero_le (ap stamp_in (none_found (record_of kind J b) (none_of kind J first b)));
  done_first = λ c b lanes lt d p. absurd (true_false _ d (none_of 9 J first c));
}
  where
    zero_le : {a n : ℕ} → a ≡ 0 → a ≤ n
    zero_le e = omega arith

-- the places of a part rise
abbrev pub Rising : ℕ → List Answered → Type 0
Rising k [] = Unit {0}
Rising k (a ∷ es) = (k ≤ a.entry.place) × Rising (suc a.entry.place) es

rising_later : (k : ℕ) (es : List Answered) → Rising (suc k) es → Rising k es
rising_later k [] h = tt
rising_later k (a ∷ es) h = (omega (arith, h.0), h.1)

rising_first : (K : Shape) (s k : ℕ) (t : Compact) (rest : List Entry) (es : List Answered)
    → ((es : List Answered) → entries es ≡ rest → Rising (suc k) es)
    → first_is (part_entry K s k t) rest es → Rising k es
rising_first K s k t rest [] next h = absurd h
rising_first K s k t rest (a ∷ es) next (same, more) =
    let p : k ≡ a.entry.place = sym (ap (λ e. e.place) same) in
    (omega arith, subst (λ n. Rising (suc n) es) p (next es more))

pub rising_part : (K : Shape) (s k : ℕ) (txs : List Compact) (es : List Answered) → entries es ≡ part K s k txs → Rising k es
rising_part K s k [] es h = subst (λ a. Rising k a) (sym (entries-nil es h)) tt
rising_part K s k (t ∷ ts) es h =
    elim (is_empty (on_shard K s t.inputs) && is_empty (on_shard K s t.outputs))
    as (λ c. entries es ≡ (if c then part K s (suc k) ts else part_entry K s k t ∷ part K s (suc k) ts) → Rising k es) [
      | true ↦ λ h. rising_later k es (rising_part K s (suc k) ts es h)
      | false ↦ λ h. rising_first K s k t (part K s (suc k) ts) es (λ es h. rising_part K s (suc k) ts es h) (entries-cons _ _ es h)
    ] h

pub agrees_rising : (f : ℕ → Bool) (k : ℕ) (es : List Answered) → Rising k es
    → ((j : ℕ) (r : Reply) → k ≤ j → reply_at es j ≡ Some r → f j ≡ true → is_held r ≡ true) → Agrees f es
agrees_rising f k [] h told = tt
agrees_rising f k (a ∷ es) h told = (
  λ won. told a.entry.place a.reply h.0 (found a es) won,
  agrees_rising f (suc a.entry.place) es h.1 (λ j r le is. told j r (omega (arith, h.0)) (passed a es j r le is)),
)
  where
    found : (a : Answered) (es : List Answered) → reply_at (a ∷ es) a.entry.place ≡ Some a.reply
    found a es = grind arith

    passed : (a : Answered) (es : List Answered) (j : ℕ) (r : Reply) → suc a.entry.place ≤ j → reply_at es j ≡ Some r → reply_at (a ∷ es) j ≡ Some r
    passed a es j r le is = grind arith

pub fits_decisions : (os : List Outcome) (es : List Answered) → Agrees (won_at os) es → FitsReplies es (decisions os (entries es))
fits_decisions os [] h = tt
fits_decisions os (a ∷ es) h = (h.0, fits_decisions os es h.1)

abbrev batch_at : ℕ → ℕ → Batch
batch_at lane number = record { lane = lane; number = number }

module _ (K : Shape) (minting : Minted) (P : Compact → Type 0) (shards : 0 < K.shards) where
  abbrev whole : List Row → List Row
  whole later = later ++ first_rows K minting

  pub all_order : (later : List Row) → Steady K minting P later → (n : ℕ) → OrderOk (journal n (whole later))
  all_order [] kept n = first_order (journal n (first_rows K minting)) (journal_first n (first_rows K minting) (all_first K minting P shards))
  all_order (row ∷ later) kept n = elim (at_node row.node n) [
    | away e ↦ subst (λ J. OrderOk J) (sym (head_away row (whole later) n e)) (all_order later kept.3 n)
    | at e ↦ subst (λ J. OrderOk J) (sym (head_at row (whole later) n e))
        (subst (λ k. OrderOk (row.what ∷ journal k (whole later))) e
        (next_order K row.node (journal row.node (whole later)) row.what ((all_structure K minting P shards later kept.3).journals row.node) kept.0
        (all_order later kept.3 row.node)))
  ]

  module _ (later : List Row) (kept : Steady K minting P later) where
    abbrev J : ℕ → List Record
    J n = journal n (later ++ first_rows K minting)

    st : Structure K P (later ++ first_rows K minting)
    st = all_structure K minting P shards later kept

    -- a Finish has its Lock
    finish_lock : (n : ℕ) (b : Batch) → has_finish (J n) b ≡ true → has_lock (J n) b ≡ true
    finish_lock n b h = let f = found_finish (J n) b h in (standing K minting P shards later kept n 3 b (Finish f.0 b f.1) f.2).1

    -- a Done is younger than each Forget
    done_younger : (b : Batch) → has_done (J (b.lane / K.lanes)) b ≡ true → (s : ℕ) → s < K.shards
        → stamp_in (record_of 4 (J (shard_node K s)) b) < stamp_in (record_of 9 (J (b.lane / K.lanes)) b)
    done_younger b h s lt =
        let f = found_done (J (b.lane / K.lanes)) b h in
        subst (λ r. stamp_in (record_of 4 (J (shard_node K s)) b) < stamp_in r) (sym f.1)
        ((standing K minting P shards later kept (b.lane / K.lanes) 9 b (Done f.0 b) f.1).2 s lt)

    pure : (s : ℕ) (b : Batch) → has_prepare (J (shard_node K s)) b ≡ false
    pure s b = (all_dones K minting P shards later kept (shard_node K s)).pure b (omega arith)

    concerned : (s : ℕ) → s < K.shards → (b : Batch) → has_lock (J (shard_node K s)) b ≡ true → Concerned K (txs_of (J (b.lane / K.lanes)) b) s
    concerned s lt b h = (
      lt,
      not_empty (lock_of (J (shard_node K s)) b) _ (st.lock_part s b h) ((all_more K minting P shards later kept (shard_node K s)).lock_some b h),
    )

    -- at a shard the phase is one of three
    no_prepare : (s lane : ℕ) → (slot (J (shard_node K s)) lane).phase ≡ InPrepare → ⊥
    no_prepare s lane p = true_false _ ((st.journals (shard_node K s)).prepared (batch_at lane (slot (J (shard_node K s)) lane).number) p refl).0
        (pure s _)

    no_commit : (s lane : ℕ) → (slot (J (shard_node K s)) lane).phase ≡ InCommit → ⊥
    no_commit s lane p = true_false _ ((all_phases K minting P shards later kept (shard_node K s)).commit_here
        (batch_at lane (slot (J (shard_node K s)) lane).number) p refl).0 (pure s _)

    no_discard : (s lane : ℕ) → (slot (J (shard_node K s)) lane).phase ≡ InDiscard → ⊥
    no_discard s lane p = true_false _ ((all_phases K minting P shards later kept (shard_node K s)).discard_here
        (batch_at lane (slot (J (shard_node K s)) lane).number) p refl).0 (pure s _)

    -- an older batch that was locked here is forgotten here, and done
    older_done : (b : Batch) (m : ℕ) → has_prepare (J (b.lane / K.lanes)) b ≡ true → m < b.number → (s : ℕ)
        → has_lock (J (shard_node K s)) (batch_at b.lane m) ≡ true
        → has_done (J (b.lane / K.lanes)) (batch_at b.lane m) ≡ true
    older_done b m prepared lt s h =
        (all_dones K minting P shards later kept (b.lane / K.lanes)).past_done (batch_at b.lane m)
        (st.lock_prepared (shard_node K s) (batch_at b.lane m) h)
        (let k : b.number ≤ (slot (J (b.lane / K.lanes)) b.lane).number = (st.journals (b.lane / K.lanes)).prepare_below b prepared in omega arith)

    older_forgot : (b : Batch) (m : ℕ) → has_prepare (J (b.lane / K.lanes)) b ≡ true → m < b.number → (s : ℕ) → s < K.shards
        → has_lock (J (shard_node K s)) (batch_at b.lane m) ≡ true
        → has_forget (J (shard_node K s)) (batch_at b.lane m) ≡ true
    older_forgot b m prepared lt s below h =
        done_forgot K minting P shards later kept (batch_at b.lane m) (older_done b m prepared lt s h) s (concerned s below (batch_at b.lane m) h)

    -- the stamp of the lane's last record here, where the lane is idle at an older batch
    idle_older : (b : Batch) (cause : ℕ) (txs : List Compact) → record_of 6 (J (b.lane / K.lanes)) b ≡ Some (Prepare cause b txs) → (s : ℕ)
        → s < K.shards
        → (slot (J (shard_node K s)) b.lane).number < b.number → (slot (J (shard_node K s)) b.lane).phase ≡ Idle
        → slot_stamp (J (shard_node K s)) b.lane < cause
    idle_older b cause txs stands s below lt idle =
        by_last (last_is (J (shard_node K s)) (batch_at b.lane (slot (J (shard_node K s)) b.lane).number) refl)
      where
        m : ℕ
        m = (slot (J (shard_node K s)) b.lane).number

        positive : 0 < cause
        positive = standing K minting P shards later kept (b.lane / K.lanes) 6 b (Prepare cause b txs) stands

        by_forget : (r : Record) → record_of 4 (J (shard_node K s)) (batch_at b.lane (slot (J (shard_node K s)) b.lane).number) ≡ Some r
            → stamp_of r < cause
        by_forget r e =
            let c : Batch = batch_at b.lane (slot (J (shard_node K s)) b.lane).number in
            let f : has_forget (J (shard_node K s)) (batch_at b.lane (slot (J (shard_node K s)) b.lane).number) ≡ true = ap is_some e in
            let l : has_lock (J (shard_node K s)) (batch_at b.lane (slot (J (shard_node K s)) b.lane).number) ≡ true
            = finish_lock (shard_node K s) (batch_at b.lane (slot (J (shard_node K s)) b.lane).number)
            ((all_dones K minting P shards later kept (shard_node K s)).forgot (batch_at b.lane (slot (J (shard_node K s)) b.lane).number) f) in
            let d : has_done (J (b.lane / K.lanes)) (batch_at b.lane (slot (J (shard_node K s)) b.lane).number) ≡ true
            = older_done b (slot (J (shard_node K s)) b.lane).number (ap is_some stands) lt s l in
            let y : stamp_in (record_of 4 (J (shard_node K s)) (batch_at b.lane (slot (J (shard_node K s)) b.lane).number))
            < stamp_in (record_of 9 (J (b.lane / K.lanes)) (batch_at b.lane (slot (J (shard_node K s)) b.lane).number))
            = done_younger (batch_at b.lane (slot (J (shard_node K s)) b.lane).number) d s below in
            let z : stamp_in (record_of 9 (J (b.lane / K.lanes)) (batch_at b.lane (slot (J (shard_node K s)) b.lane).number))
            < stamp_in (record_of 6 (J (b.lane / K.lanes)) b)
            = (all_order later kept (b.lane / K.lanes)).done_first (batch_at b.lane (slot (J (shard_node K s)) b.lane).number) b refl lt d
            (ap is_some stands) in
            chain (sym (ap stamp_in e)) y z (ap stamp_in stands)
          where
            chain : {a c d e f : ℕ} → a ≡ c → c < d → d < e → e ≡ f → a < f
            chain p q r t = omega arith

        by_done : (r : Record) → record_of 9 (J (shard_node K s)) (batch_at b.lane (slot (J (shard_node K s)) b.lane).number) ≡ Some r → ⊥
        by_done r e = true_false _ ((all_phases K minting P shards later kept (shard_node K s)).done_prepared
            (batch_at b.lane (slot (J (shard_node K s)) b.lane).number) (ap is_some e)).0
            (pure s (batch_at b.lane (slot (J (shard_node K s)) b.lane).number))

        of_none : (r : Record) (kind : ℕ) → record_of kind (J (shard_node K s)) (batch_at b.lane (slot (J (shard_node K s)) b.lane).number) ≡ Some r
            → is_of (batch_at b.lane (slot (J (shard_node K s)) b.lane).number) r ≡ true
        of_none r kind e = test_batch kind (batch_at b.lane (slot (J (shard_node K s)) b.lane).number) r
            (found_passes kind (J (shard_node K s)) (batch_at b.lane (slot (J (shard_node K s)) b.lane).number) r e)

        to_kind : (kind : ℕ) (r : Record) → record_of kind (J (shard_node K s)) (batch_at b.lane (slot (J (shard_node K s)) b.lane).number) ≡ Some r
            → kind_of r ≡ kind → (slot_by b.lane (Some r)).phase ≡ Idle → stamp_of r < cause
        to_kind kind (Forget stamp c) e k p = by_forget (Forget stamp c)
            (subst (λ n. record_of n (J (shard_node K s)) (batch_at b.lane (slot (J (shard_node K s)) b.lane).number) ≡ Some (Forget stamp c))
            (sym k) e)
        to_kind kind (Done stamp c) e k p = absurd
            (by_done (Done stamp c) (subst (λ n. record_of n (J (shard_node K s)) (batch_at b.lane (slot (J (shard_node K s)) b.lane).number)
            ≡ Some (Done stamp c)) (sym k) e))
        to_kind kind (Genesis header hs) e k p = positive
        to_kind kind (Start header) e k p = positive
        to_kind kind (Carry stamp header source hs numbers) e k p =
            absurd (let z : false ≡ true = of_none (Carry stamp header source hs numbers) kind e in cc)
        to_kind kind (CarryStart stamp header source numbers) e k p =
            absurd (let z : false ≡ true = of_none (CarryStart stamp header source numbers) kind e in cc)
        to_kind kind (Upgrade stamp batch) e k p = absurd (let z : false ≡ true = of_none (Upgrade stamp batch) kind e in cc)
        to_kind kind (Seal stamp to shards) e k p = absurd (let z : false ≡ true = of_none (Seal stamp to shards) kind e in cc)
        to_kind kind other e k p = cc

        by_last : LastIs (J (shard_node K s)) (batch_at b.lane (slot (J (shard_node K s)) b.lane).number)
            → slot_stamp (J (shard_node K s)) b.lane < cause
        by_last (nothing_yet z p) = let q : 0 < cause = positive in omega arith
        by_last (begun r first e p) = absurd (not_begun K minting P later kept (shard_node K s) b.lane r e first)
        by_last (of_kind kind r e w k p) = let q : stamp_of r < cause = to_kind kind r e k (sym p ∙ idle) in omega arith

    three_ways : (m n : ℕ) → (m < n) ⊎ (m ≡ n) ⊎ (n < m)
    three_ways m n = grind arith

    -- a lock
    pub lock_answered : (b : Batch) (cause : ℕ) (txs : List Compact) → record_of 6 (J (b.lane / K.lanes)) b ≡ Some (Prepare cause b txs) → (s : ℕ)
        → s < K.shards
        → LockAnswered (J (shard_node K s)) b (part K s 0 txs) cause
    lock_answered b cause txs stands s below = elim (three_ways (slot (J (shard_node K s)) b.lane).number b.number) [
      | inl lt ↦ lock_appends lt (idle_at lt) (idle_older b cause txs stands s below lt (idle_at lt))
      | inr rest ↦ elim rest [
        | inl e ↦ at_number e
        | inr gt ↦ lock_stale (inl gt)
      ]
    ]
      where
        idle_at : (slot (J (shard_node K s)) b.lane).number < b.number → (slot (J (shard_node K s)) b.lane).phase ≡ Idle
        idle_at lt = elim ((slot (J (shard_node K s)) b.lane).phase) as (λ p. (slot (J (shard_node K s)) b.lane).phase ≡ p → p ≡ Idle) [
          | Idle ↦ λ _. refl
          | InLock ↦ λ p. absurd (true_false _
              (older_forgot b (slot (J (shard_node K s)) b.lane).number (ap is_some stands) lt s below
              ((st.journals (shard_node K s)).locked (batch_at b.lane (slot (J (shard_node K s)) b.lane).number) p refl).0)
              ((all_more K minting P shards later kept (shard_node K s)).in_lock (batch_at b.lane (slot (J (shard_node K s)) b.lane).number) p refl))
          | InFinish ↦ λ p.
              let f : (has_lock (J (shard_node K s)) (batch_at b.lane (slot (J (shard_node K s)) b.lane).number) ≡ true)
              × (has_forget (J (shard_node K s)) (batch_at b.lane (slot (J (shard_node K s)) b.lane).number) ≡ false)
              = (all_more K minting P shards later kept (shard_node K s)).in_finish (batch_at b.lane (slot (J (shard_node K s)) b.lane).number) p
              refl in
              absurd (true_false _ (older_forgot b (slot (J (shard_node K s)) b.lane).number (ap is_some stands) lt s below f.0) f.1)
          | InPrepare ↦ λ p. absurd (no_prepare s b.lane p)
          | InCommit ↦ λ p. absurd (no_commit s b.lane p)
          | InDiscard ↦ λ p. absurd (no_discard s b.lane p)
        ] refl

        same_part : has_lock (J (shard_node K s)) b ≡ true → entries (lock_of (J (shard_node K s)) b) ≡ part K s 0 txs
        same_part h = st.lock_part s b h ∙ ap (λ r. part K s 0 (txs_in r)) stands

        at_number : (slot (J (shard_node K s)) b.lane).number ≡ b.number → LockAnswered (J (shard_node K s)) b (part K s 0 txs) cause
        at_number e = elim ((slot (J (shard_node K s)) b.lane).phase) as
            (λ p. (slot (J (shard_node K s)) b.lane).phase ≡ p → LockAnswered (J (shard_node K s)) b (part K s 0 txs) cause) [
              | Idle ↦ λ p. lock_stale (inr (e, p))
              | InLock ↦ λ p. lock_stored e (same_part ((st.journals (shard_node K s)).locked b p e).0)
              | InFinish ↦ λ p. lock_stored e (same_part ((all_more K minting P shards later kept (shard_node K s)).in_finish b p e).0)
              | InPrepare ↦ λ p. absurd (no_prepare s b.lane p)
              | InCommit ↦ λ p. absurd (no_commit s b.lane p)
              | InDiscard ↦ λ p. absurd (no_discard s b.lane p)
            ] refl

    -- the stamp of the lane's last record here, where its phase is that of the batch's record of a kind
    stamp_at : (s : ℕ) (b : Batch) → (slot (J (shard_node K s)) b.lane).number ≡ b.number
        → ((slot (J (shard_node K s)) b.lane).phase ≡ InLock → slot_stamp (J (shard_node K s)) b.lane ≡ stamp_in (record_of 2 (J (shard_node K s)) b))
        × ((slot (J (shard_node K s)) b.lane).phase ≡ InFinish
        → slot_stamp (J (shard_node K s)) b.lane ≡ stamp_in (record_of 3 (J (shard_node K s)) b))
    stamp_at s b n = (
      λ p. phase_stamp (J (shard_node K s)) b n InLock p (λ i. let z : Idle ≡ InLock = sym i ∙ p in cc),
      λ p. phase_stamp (J (shard_node K s)) b n InFinish p (λ i. let z : Idle ≡ InFinish = sym i ∙ p in cc),
    )

    -- a finish
    pub finish_answered : (b : Batch) (cause : ℕ) (os : List Outcome) → record_of 7 (J (b.lane / K.lanes)) b ≡ Some (Commit cause b os) → (s : ℕ)
        → Concerned K (txs_of (J (b.lane / K.lanes)) b) s
        → FinishAnswered (J (shard_node K s)) b (decisions os (entries (lock_of (J (shard_node K s)) b))) cause
    finish_answered b cause os stands s c =
        let facts : Facts K (λ n. journal n (later ++ first_rows K minting)) (b.lane / K.lanes) (Commit cause b os)
        = standing K minting P shards later kept (b.lane / K.lanes) 7 b (Commit cause b os) stands in
        let locked : has_lock (J (shard_node K s)) b ≡ true = facts.1 s c in
        elim (three_ways (slot (J (shard_node K s)) b.lane).number b.number) [
          | inl lt ↦ absurd (let le : b.number ≤ (slot (J (shard_node K s)) b.lane).number = (st.journals (shard_node K s)).lock_below b locked in
              omega arith)
          | inr rest ↦ elim rest [
            | inl e ↦ at_number facts locked e
            | inr gt ↦ finish_stale (inl gt)
          ]
        ]
      where
        decided : has_finish (J (shard_node K s)) b ≡ true
            → decisions_in (record_of 3 (J (shard_node K s)) b) ≡ decisions os (entries (lock_of (J (shard_node K s)) b))
        decided h =
            let f = found_finish (J (shard_node K s)) b h in
            ap decisions_in f.2 ∙ (standing K minting P shards later kept (shard_node K s) 3 b (Finish f.0 b f.1) f.2).2
            ∙ ap (λ r. decisions (outcomes_in r) (entries (lock_of (J (shard_node K s)) b))) stands

        fits : Facts K (λ n. journal n (later ++ first_rows K minting)) (b.lane / K.lanes) (Commit cause b os)
            → has_lock (J (shard_node K s)) b ≡ true
            → FitsReplies (lock_of (J (shard_node K s)) b) (decisions os (entries (lock_of (J (shard_node K s)) b)))
        fits facts locked = fits_decisions os (lock_of (J (shard_node K s)) b)
            (agrees_rising (won_at os) 0 (lock_of (J (shard_node K s)) b)
            (rising_part K s 0 (txs_of (J (b.lane / K.lanes)) b) (lock_of (J (shard_node K s)) b) (st.lock_part s b locked))
            (λ j r le is won. outcome_held (λ k. entries_in (at_shards K J 2 b k)) (0 + j) 0 K.shards s r
            (won_at-outcomes (λ k. entries_in (at_shards K J 2 b k)) K.shards 0 (txs_of (J (b.lane / K.lanes)) b) j
            (subst (λ a. won_at a j ≡ true) facts.2 won))
            (omega arith) (omega (arith, c.0)) (subst (λ i. reply_at (lock_of (J (shard_node K s)) b) i ≡ Some r) (omega arith) is)))

        at_number : Facts K (λ n. journal n (later ++ first_rows K minting)) (b.lane / K.lanes) (Commit cause b os)
            → has_lock (J (shard_node K s)) b ≡ true
            → (slot (J (shard_node K s)) b.lane).number ≡ b.number
            → FinishAnswered (J (shard_node K s)) b (decisions os (entries (lock_of (J (shard_node K s)) b))) cause
        at_number facts locked e = elim ((slot (J (shard_node K s)) b.lane).phase) as
            (λ p. (slot (J (shard_node K s)) b.lane).phase ≡ p
            → FinishAnswered (J (shard_node K s)) b (decisions os (entries (lock_of (J (shard_node K s)) b))) cause) [
              | Idle ↦ λ p. finish_stale (inr (e, p))
              | InLock ↦ λ p. finish_appends e p (fits facts locked) (older ((stamp_at s b e).0 p) (facts.3 s c.0))
              | InFinish ↦ λ p. finish_stored e p (decided ((all_dones K minting P shards later kept (shard_node K s)).finish_here b p e))
              | InPrepare ↦ λ p. absurd (no_prepare s b.lane p)
              | InCommit ↦ λ p. absurd (no_commit s b.lane p)
              | InDiscard ↦ λ p. absurd (no_discard s b.lane p)
            ] refl
          where
            older : {a d : ℕ} → a ≡ d → d < cause → a < cause
            older x y = omega arith

    -- a forget
    pub forget_answered : (b : Batch) (cause : ℕ) → record_of 8 (J (b.lane / K.lanes)) b ≡ Some (Discard cause b) → (s : ℕ)
        → Concerned K (txs_of (J (b.lane / K.lanes)) b) s
        → ForgetAnswered (J (shard_node K s)) b cause
    forget_answered b cause stands s c =
        let facts : Facts K (λ n. journal n (later ++ first_rows K minting)) (b.lane / K.lanes) (Discard cause b)
        = standing K minting P shards later kept (b.lane / K.lanes) 8 b (Discard cause b) stands in
        let finished : has_finish (J (shard_node K s)) b ≡ true = facts.1 s c in
        elim (three_ways (slot (J (shard_node K s)) b.lane).number b.number) [
          | inl lt ↦ absurd (let le : b.number ≤ (slot (J (shard_node K s)) b.lane).number = (st.journals (shard_node K s)).finish_below b finished
              in omega arith)
          | inr rest ↦ elim rest [
            | inl e ↦ at_number (facts.2 s c.0) finished e
            | inr gt ↦ forget_stale gt
          ]
        ]
      where
        at_number : stamp_in (record_of 3 (J (shard_node K s)) b) < cause → has_finish (J (shard_node K s)) b ≡ true
            → (slot (J (shard_node K s)) b.lane).number ≡ b.number → ForgetAnswered (J (shard_node K s)) b cause
        at_number lt finished e = elim ((slot (J (shard_node K s)) b.lane).phase) as
            (λ p. (slot (J (shard_node K s)) b.lane).phase ≡ p → ForgetAnswered (J (shard_node K s)) b cause) [
              | Idle ↦ λ p. forget_stored e p
              | InLock ↦ λ p. absurd (true_false _ finished ((st.journals (shard_node K s)).locked b p e).1)
              | InFinish ↦ λ p. forget_appends e p (older ((stamp_at s b e).1 p) lt)
              | InPrepare ↦ λ p. absurd (no_prepare s b.lane p)
              | InCommit ↦ λ p. absurd (no_commit s b.lane p)
              | InDiscard ↦ λ p. absurd (no_discard s b.lane p)
            ] refl
          where
            older : {a d : ℕ} → a ≡ d → d < cause → a < cause
            older x y = omega arith
