-- Each row that is next and caused keeps the invariant of the view.
use Rattle.std.proofs.Common.{◌≡◌, ℕ, suc, ◌+◌, ◌<◌, ◌≤◌, ◌/◌, Bool, true, false, ◌&&◌, ◌==◌, if◌then◌else◌, List, [], ◌∷◌, ◌++◌, Some, refl, sym, ap}
use Rattle.std.proofs.Common.{◌∙◌, subst, arith, append-nil}
use Rattle.cbdc_model.specs.After.{FitsReplies}
use Rattle.cbdc_model.specs.Causes.{IsCaused}
use Rattle.cbdc_model.specs.History.{won_of, committed, all_inputs, all_outputs}
use Rattle.cbdc_model.specs.Outcomes.{won_txs, won_at, decisions, reply_at}
use Rattle.cbdc_model.specs.Ranges.{shard_of, shard_node, journal_at, lane_journal, part, is_no_part, on_shard, is_empty}
use Rattle.cbdc_model.specs.Records.{Digest, Shape, Batch, same_batch, Compact, Outcome, Answered, Entry, Reply, Record, Row, journal, is_held}
use Rattle.cbdc_model.specs.Records.{is_won, Genesis, Lock, Finish, Start, Prepare, Commit, lock_of, txs_of, outcomes_of, Carry, CarryStart}
use Rattle.cbdc_model.specs.Replies.{entries}
use Rattle.cbdc_model.specs.Status.{Status, status, has, held_inputs, made_outputs, taken_inputs, returned_inputs, finished_status, Unspent, Locked}
use Rattle.cbdc_model.specs.Status.{Absent}
use Rattle.ledger_laws.proofs.Next.{Next, has_lock, has_finish, has_commit, Each}
use Rattle.ledger_laws.proofs.Counts.{count, count-append, has-count, count-has}
use Rattle.ledger_laws.proofs.Parts.{IsPart, is_part, won_by, won_by-won_txs, decided, count-made, count-taken, count-held, agrees, won-le-held}
use Rattle.ledger_laws.proofs.Parts.{outcome_held, won_at-outcomes}
use Rattle.ledger_laws.proofs.Replies.{answered_held, answered_once, EachOnce}
use Rattle.ledger_laws.proofs.View.{View, measured, Inv, same, other, same_or_not}
use Rattle.ledger_laws.proofs.LockStep.{Locks, lock_kept}
use Rattle.ledger_laws.proofs.CommitStep.{Commits, Apart, commit_kept}
use Rattle.ledger_laws.proofs.FinishStep.{Finishes, FinishesAt, here, elsewhere, finish_kept}
use Rattle.ledger_laws.proofs.Rows.{Structure, unchanged, view, same_view, quiet_view, arrived, at, away, at_node, head_at, head_away}
use Rattle.ledger_laws.proofs.Lookups.{no_lock, no_commit, not_true, true_false, won_txs-nil, shard_of-lt}

abbrev locks_at : Shape → List Row → Batch → ℕ → List Answered
locks_at K past b s = lock_of (journal (shard_node K s) past) b

module _ (K : Shape) (P : Compact → Type 0) (past : List Row) (st : Structure K P past) where
  -- a batch that is prepared and has no Commit yet
  no_finish : (b : Batch) → has_commit (lane_journal K past b) b ≡ false → (n : ℕ) → has_finish (journal n past) b ≡ false
  no_finish b h n = not_true _ (λ f. true_false _ (st.finish_committed n b f) h)

  -- Prepare: the batch is new, so it has no Commit
  module _ (node stamp : ℕ) (b : Batch) (txs : List Compact) (next : Next K node (journal node past) (Prepare stamp b txs)) where
    not_committed : has_commit (lane_journal K past b) b ≡ false
    not_committed = subst (λ n. has_commit (journal n past) b ≡ false) next.2 (not_true _ (λ h.
        omega (arith, (st.journals node).prepare_below b ((st.journals node).commit_prepared b h), next.4)))

    prepare_won : (c : Batch) → won_of K (record { node = node; what = Prepare stamp b txs } ∷ past) c ≡ won_of K past c
    prepare_won c =
        let same_outcomes : outcomes_of (lane_journal K (record { node = node; what = Prepare stamp b txs } ∷ past) c) c
        ≡ outcomes_of (lane_journal K past c) c
        = unchanged (λ J. outcomes_of J c) (c.lane / K.lanes) (record { node = node; what = Prepare stamp b txs }) past refl in
        elim (same_or_not b c) [
          | same e ↦
              let none : outcomes_of (lane_journal K past c) c ≡ [] =
              subst (λ d. outcomes_of (lane_journal K past d) d ≡ []) e (no_commit (lane_journal K past b) b not_committed) in
              ap (won_txs (txs_of (lane_journal K (record { node = node; what = Prepare stamp b txs } ∷ past) c) c)) (same_outcomes ∙ none)
              ∙ won_txs-nil _ ∙ sym (won_txs-nil (txs_of (lane_journal K past c) c))
              ∙ ap (won_txs (txs_of (lane_journal K past c) c)) (sym none)
          | other o ↦ λ i. won_txs (txs_other c o i) (same_outcomes i)
        ]
      where
        txs_other : (c : Batch) → same_batch b c ≡ false
            → txs_of (lane_journal K (record { node = node; what = Prepare stamp b txs } ∷ past) c) c ≡ txs_of (lane_journal K past c) c
        txs_other c o = grind arith

    pub prepare_view : view K (record { node = node; what = Prepare stamp b txs } ∷ past) ≡ view K past
    prepare_view = same_view K past (record { node = node; what = Prepare stamp b txs }) (λ J c. refl) (λ J c. refl) (λ J x. refl) (λ J x. refl)
        prepare_won refl

  -- Lock, by a measure of how often it holds a hash: the count itself, or whether it does at all
  module _ (f : ℕ → ℕ) (f_none : f 0 ≡ 0) (f_some : (n : ℕ) → 0 < f n → 0 < n) (f_zero : (n : ℕ) → f n ≡ 0 → n ≡ 0) (node stamp : ℕ) (b : Batch)
      (es : List Answered)
      (next : Next K node (journal node past) (Lock stamp b es))
      (once : (x : Digest) → node ≡ shard_node K (shard_of K x) → f (count x (held_inputs es)) ≤ 1) where
    pub held_now : Digest → ℕ
    held_now x = if node == shard_node K (shard_of K x) then f (count x (held_inputs es)) else 0

    now_at : (x : Digest) → node ≡ shard_node K (shard_of K x) → held_now x ≡ f (count x (held_inputs es))
    unfolding held_now
    now_at x e = let t : (node == shard_node K (shard_of K x)) ≡ true = grind arith in rw t

    now_away : (x : Digest) → (node == shard_node K (shard_of K x)) ≡ false → held_now x ≡ 0
    unfolding held_now
    now_away x e = rw e

    es_held : (x : Digest) → 0 < count x (held_inputs es) → status (journal node past) x ≡ Unspent
    es_held x h = (answered_held (journal node past) b [] (entries es) x (subst (λ a. 0 < count x (held_inputs a)) next.4 h)).0

    unlocked : has_lock (journal node past) b ≡ false
    unlocked = not_true _ (λ h. omega (arith, (st.journals node).lock_below b h, next.3))

    unfinished : has_finish (journal node past) b ≡ false
    unfinished = not_true _ (λ h. omega (arith, (st.journals node).finish_below b h, next.3))

    same_itself : same_batch b b ≡ true
    same_itself = grind arith

    lock_of_head : (J : List Record) → lock_of (Lock stamp b es ∷ J) b ≡ es
    lock_of_head J = rw same_itself

    lock_of_behind : (c : Batch) (J : List Record) → same_batch b c ≡ false → lock_of (Lock stamp b es ∷ J) c ≡ lock_of J c
    lock_of_behind c J e = rw e

    -- the hash's journal, with the Lock or as it was
    module _ (x : Digest) where
      lock_was : 0 < held_now x → status (journal_at K past x) x ≡ Unspent
      lock_was h = elim (at_node node (shard_node K (shard_of K x))) [
        | at e ↦ subst (λ n. status (journal n past) x ≡ Unspent) e (es_held x (f_some _ (omega (arith, now_at x e))))
        | away e ↦ absurd (omega (arith, now_away x e))
      ]

      lock_once : held_now x ≤ 1
      lock_once = elim (at_node node (shard_node K (shard_of K x))) [
        | at e ↦ omega (arith, now_at x e, once x e)
        | away e ↦ omega (arith, now_away x e)
      ]

      none_before : node ≡ shard_node K (shard_of K x) → f (count x (held_inputs (lock_of (journal_at K past x) b))) ≡ 0
      none_before e = ap (λ a. f (count x (held_inputs a)))
          (no_lock (journal_at K past x) b (subst (λ n. has_lock (journal n past) b ≡ false) e unlocked)) ∙ f_none

      lock_fresh : 0 < held_now x → (has_finish (journal_at K past x) b ≡ false) × (f (count x (held_inputs (lock_of (journal_at K past x) b))) ≡ 0)
      lock_fresh h = elim (at_node node (shard_node K (shard_of K x))) [
        | at e ↦ (subst (λ n. has_finish (journal n past) b ≡ false) e unfinished, none_before e)
        | away e ↦ absurd (omega (arith, now_away x e))
      ]

      lock_status : 0 < count x (held_inputs es) → status (Lock stamp b es ∷ journal_at K past x) x ≡ Locked b
      lock_status h = rw (count-has x (held_inputs es) h)

      lock_locked : 0 < held_now x → status (journal_at K (record { node = node; what = Lock stamp b es } ∷ past) x) x ≡ Locked b
      lock_locked h = elim (at_node node (shard_node K (shard_of K x))) [
        | at e ↦ ap (λ J. status J x) (head_at (record { node = node; what = Lock stamp b es }) past _ e)
            ∙ lock_status (f_some _ (omega (arith, now_at x e)))
        | away e ↦ absurd (omega (arith, now_away x e))
      ]

      lock_not_named : count x (held_inputs es) ≡ 0 → status (Lock stamp b es ∷ journal_at K past x) x ≡ status (journal_at K past x) x
      lock_not_named z = grind (arith, has-count x (held_inputs es))

      lock_others : held_now x ≡ 0 → status (journal_at K (record { node = node; what = Lock stamp b es } ∷ past) x) x
          ≡ status (journal_at K past x) x
      lock_others z = elim (at_node node (shard_node K (shard_of K x))) [
        | at e ↦ ap (λ J. status J x) (head_at (record { node = node; what = Lock stamp b es }) past _ e)
            ∙ lock_not_named (f_zero _ (sym (now_at x e) ∙ z))
        | away e ↦ ap (λ J. status J x) (head_away (record { node = node; what = Lock stamp b es }) past _ e)
      ]

      lock_holds : f (count x (held_inputs (lock_of (journal_at K (record { node = node; what = Lock stamp b es } ∷ past) x) b)))
          ≡ f (count x (held_inputs (lock_of (journal_at K past x) b))) + held_now x
      lock_holds = elim (at_node node (shard_node K (shard_of K x))) [
        | at e ↦
            let now : f (count x (held_inputs (lock_of (journal_at K (record { node = node; what = Lock stamp b es } ∷ past) x) b)))
            ≡ f (count x (held_inputs es))
            = ap (λ J. f (count x (held_inputs (lock_of J b)))) (head_at (record { node = node; what = Lock stamp b es }) past _ e)
            ∙ ap (λ a. f (count x (held_inputs a))) (lock_of_head (journal_at K past x)) in
            omega (arith, now, none_before e, now_at x e)
        | away e ↦ omega (
          arith,
          now_away x e,
          ap (λ J. f (count x (held_inputs (lock_of J b)))) (head_away (record { node = node; what = Lock stamp b es }) past _ e),
        )
      ]

      lock_other_batches : (c : Batch) → same_batch b c ≡ false
          → f (count x (held_inputs (lock_of (journal_at K (record { node = node; what = Lock stamp b es } ∷ past) x) c)))
          ≡ f (count x (held_inputs (lock_of (journal_at K past x) c)))
      lock_other_batches c o = ap (λ a. f (count x (held_inputs a)))
          (unchanged (λ J. lock_of J c) (shard_node K (shard_of K x)) (record { node = node; what = Lock stamp b es }) past
          (lock_of_behind c (journal_at K past x) o))

    pub lock_measured : Locks (measured f (view K past)) (measured f (view K (record { node = node; what = Lock stamp b es } ∷ past))) b held_now
    lock_measured = record {
      was = lock_was;
      once = lock_once;
      fresh = lock_fresh;
      locked = lock_locked;
      others = lock_others;
      holds = lock_holds;
      other_batches = λ c x o. lock_other_batches x c o;
      arrived = λ x. unchanged (λ J. arrived J x) (shard_node K (shard_of K x)) (record { node = node; what = Lock stamp b es }) past refl;
      spent = λ x. ap (λ ts. count x (all_inputs ts)) (append-nil (committed past));
      made = λ x. ap (λ ts. count x (all_outputs ts)) (append-nil (committed past));
      takes = λ c x i. count x (all_inputs (won_txs
          (unchanged (λ J. txs_of J c) (c.lane / K.lanes) (record { node = node; what = Lock stamp b es }) past refl i)
          (unchanged (λ J. outcomes_of J c) (c.lane / K.lanes) (record { node = node; what = Lock stamp b es }) past refl i)));
      makes = λ c x i. count x (all_outputs (won_txs
          (unchanged (λ J. txs_of J c) (c.lane / K.lanes) (record { node = node; what = Lock stamp b es }) past refl i)
          (unchanged (λ J. outcomes_of J c) (c.lane / K.lanes) (record { node = node; what = Lock stamp b es }) past refl i)));
      finished = λ c x. unchanged (λ J. has_finish J c) (shard_node K (shard_of K x)) (record { node = node; what = Lock stamp b es }) past refl;
    }

  -- the count itself, where each entry's inputs are apart
  module _ {hashes : Digest → ℕ} (apart : Apart hashes P) (node stamp : ℕ) (b : Batch) (es : List Answered)
      (next : Next K node (journal node past) (Lock stamp b es)) (caused : IsCaused K (λ n. journal n past) node (Lock stamp b es)) where
    count-on_shard-le : (K : Shape) (s : ℕ) (x : Digest) (xs : List Digest) → count x (on_shard K s xs) ≤ count x xs
    count-on_shard-le K s x [] = omega arith
    count-on_shard-le K s x (y ∷ ys) = on_more K s x y ys (count-on_shard-le K s x ys)
      where
        on_more : (K : Shape) (s : ℕ) (x y : Digest) (ys : List Digest) → count x (on_shard K s ys) ≤ count x ys
            → count x (on_shard K s (y ∷ ys)) ≤ count x (y ∷ ys)
        on_more K s x y ys h = grind arith

    each_once : (K : Shape) (s k : ℕ) (x : Digest) (txs : List Compact) → Each P txs → EachOnce x (part K s k txs)
    each_once K s k x [] each = tt
    each_once K s k x (t ∷ ts) each =
        elim (is_empty (on_shard K s t.inputs) && is_empty (on_shard K s t.outputs))
        as (λ c. EachOnce x (if c then part K s (suc k) ts else
        record { place = k; id = t.id; inputs = on_shard K s t.inputs; outputs = on_shard K s t.outputs } ∷ part K s (suc k) ts)) [
          | true ↦ each_once K s (suc k) x ts each.1
          | false ↦ (omega (arith, count-on_shard-le K s x t.inputs, apart.inputs_once t x each.0), each_once K s (suc k) x ts each.1)
        ]

    es_once : (x : Digest) (s : ℕ) → node ≡ shard_node K s → count x (held_inputs es) ≤ 1
    es_once x s is = subst (λ a. count x (held_inputs a) ≤ 1) (sym next.4) (answered_once (journal node past) b [] (entries es) x
        (subst (λ p. EachOnce x p) (sym (caused.1 s is)) (each_once K s 0 x (txs_of (lane_journal K past b) b) (st.proper b))))

    pub lock_changes : (held : Digest → ℕ) × Locks (view K past) (view K (record { node = node; what = Lock stamp b es } ∷ past)) b held
    lock_changes = (
      held_now (λ n. n) refl (λ n h. h) (λ n e. e) node stamp b es next (λ x e. es_once x (shard_of K x) e),
      lock_measured (λ n. n) refl (λ n h. h) (λ n e. e) node stamp b es next (λ x e. es_once x (shard_of K x) e),
    )

  -- Commit
  module _ (node stamp : ℕ) (b : Batch) (os : List Outcome) (shards : 0 < K.shards)
      (next : Next K node (journal node past) (Commit stamp b os)) (caused : IsCaused K (λ n. journal n past) node (Commit stamp b os)) where
    abbrev pub newly : List Compact
    newly = won_txs (txs_of (journal node past) b) os

    uncommitted : has_commit (lane_journal K past b) b ≡ false
    uncommitted = subst (λ n. has_commit (journal n past) b ≡ false) next.2 ((st.journals node).prepared b next.3 next.4).1

    each_won : (txs : List Compact) (os : List Outcome) → Each P txs → Each P (won_txs txs os)
    each_won [] os each = tt
    each_won (t ∷ ts) [] each = tt
    each_won (t ∷ ts) (o ∷ os) each = elim (is_won o) as (λ c. Each P (if c then t ∷ won_txs ts os else won_txs ts os)) [
      | true ↦ (each.0, each_won ts os each.1)
      | false ↦ each_won ts os each.1
    ]

    -- the lock at the shard of a hash is the part, also where there is none
    no_part : (es : List Entry) → is_no_part es ≡ true → es ≡ []
    no_part [] h = refl
    no_part (e ∷ es) h = cc

    lock_is_part : (x : Digest) → entries (lock_of (journal_at K past x) b) ≡ part K (shard_of K x) 0 (txs_of (lane_journal K past b) b)
    lock_is_part x =
        let s = shard_of K x in
        elim (has_lock (journal_at K past x) b) as (λ c. has_lock (journal_at K past x) b ≡ c
        → entries (lock_of (journal_at K past x) b) ≡ part K (shard_of K x) 0 (txs_of (lane_journal K past b) b)) [
          | true ↦ λ h. st.lock_part (shard_of K x) b h
          | false ↦ λ h. ap entries (no_lock (journal_at K past x) b h)
              ∙ sym (no_part (part K (shard_of K x) 0 (txs_of (lane_journal K past b) b)) (unconcerned x h))
        ] refl
      where
        unconcerned : (x : Digest) → has_lock (journal_at K past x) b ≡ false
            → is_no_part (part K (shard_of K x) 0 (txs_of (lane_journal K past b) b)) ≡ true
        unconcerned x h = elim (is_no_part (part K (shard_of K x) 0 (txs_of (lane_journal K past b) b)))
            as (λ c. is_no_part (part K (shard_of K x) 0 (txs_of (lane_journal K past b) b)) ≡ c → c ≡ true) [
              | true ↦ λ _. refl
              | false ↦ λ e. absurd (true_false _ (caused.0 (shard_of K x) (shard_of-lt K x shards, e)) h)
            ] refl

    newly_is : (x : Digest) → won_by (won_at os) 0 (txs_of (lane_journal K past b) b) ≡ newly
    newly_is x = subst (λ n. won_by (won_at os) 0 (txs_of (lane_journal K past b) b) ≡ won_txs (txs_of (journal n past) b) os) (sym next.2)
        (won_by-won_txs (won_at os) 0 (txs_of (lane_journal K past b) b) os (λ i. ap (won_at os) (omega arith)))

    won_is_held : (x : Digest) (j : ℕ) (r : Reply) → 0 ≤ j → reply_at (lock_of (journal_at K past x) b) j ≡ Some r → won_at os j ≡ true
        → is_held r ≡ true
    won_is_held x j r le is won =
        outcome_held (locks_at K past b) (0 + j) 0 K.shards (shard_of K x) r
        (won_at-outcomes (locks_at K past b) K.shards 0 (txs_of (lane_journal K past b) b) j (subst (λ os. won_at os j ≡ true) caused.1 won))
        (omega arith) (omega (arith, shard_of-lt K x shards))
        (subst (λ k. reply_at (lock_of (journal_at K past x) b) k ≡ Some r) (omega arith) is)

    newly_held_there : (x : Digest) → count x (all_inputs newly) ≤ count x (held_inputs (lock_of (journal_at K past x) b))
    newly_held_there x =
        let p : IsPart x 0 (txs_of (lane_journal K past b) b) (lock_of (journal_at K past x) b)
        = is_part K x 0 (txs_of (lane_journal K past b) b) (lock_of (journal_at K past x) b) (lock_is_part x) in
        subst (λ ts. count x (all_inputs ts) ≤ count x (held_inputs (lock_of (journal_at K past x) b))) (newly_is x)
        (won-le-held x (won_at os) p (agrees x (won_at os) p (won_is_held x)))

    outcomes_other : (n : ℕ) (c : Batch) → same_batch b c ≡ false
        → outcomes_of (journal n (record { node = node; what = Commit stamp b os } ∷ past)) c ≡ outcomes_of (journal n past) c
    outcomes_other n c e = grind arith

    outcomes_head : (J : List Record) → outcomes_of (Commit stamp b os ∷ J) b ≡ os
    outcomes_head J = grind arith

    won_new : won_of K (record { node = node; what = Commit stamp b os } ∷ past) b ≡ newly
    won_new =
        let J : journal (b.lane / K.lanes) (record { node = node; what = Commit stamp b os } ∷ past)
        ≡ Commit stamp b os ∷ journal (b.lane / K.lanes) past
        = head_at (record { node = node; what = Commit stamp b os }) past (b.lane / K.lanes) next.2 in
        (λ i. won_txs (txs_of (J i) b) (outcomes_of (J i) b))
        ∙ ap (won_txs (txs_of (journal (b.lane / K.lanes) past) b)) (outcomes_head (journal (b.lane / K.lanes) past))
        ∙ ap (λ n. won_txs (txs_of (journal n past) b) os) (sym next.2)

    won_other : (c : Batch) → same_batch b c ≡ false → won_of K (record { node = node; what = Commit stamp b os } ∷ past) c ≡ won_of K past c
    won_other c o = λ i. won_txs (unchanged (λ J. txs_of J c) (c.lane / K.lanes) (record { node = node; what = Commit stamp b os }) past refl i)
        (outcomes_other (c.lane / K.lanes) c o i)

    won_before : won_of K past b ≡ []
    won_before = ap (won_txs (txs_of (lane_journal K past b) b)) (no_commit (lane_journal K past b) b uncommitted)
        ∙ won_txs-nil (txs_of (lane_journal K past b) b)

    all_inputs-append : (x : Digest) (ts us : List Compact) → count x (all_inputs (ts ++ us)) ≡ count x (all_inputs ts) + count x (all_inputs us)
    all_inputs-append x [] us = omega arith
    all_inputs-append x (t ∷ ts) us = omega (
      arith,
      count-append x t.inputs (all_inputs (ts ++ us)),
      count-append x t.inputs (all_inputs ts),
      all_inputs-append x ts us,
    )

    all_outputs-append : (x : Digest) (ts us : List Compact) → count x (all_outputs (ts ++ us)) ≡ count x (all_outputs ts) + count x (all_outputs us)
    all_outputs-append x [] us = omega arith
    all_outputs-append x (t ∷ ts) us = omega (
      arith,
      count-append x t.outputs (all_outputs (ts ++ us)),
      count-append x t.outputs (all_outputs ts),
      all_outputs-append x ts us,
    )

    pub commit_changes : Commits P (view K past) (view K (record { node = node; what = Commit stamp b os } ∷ past)) b newly
    commit_changes = record {
      each = each_won (txs_of (journal node past) b) os (subst (λ n. Each P (txs_of (journal n past) b)) (sym next.2) (st.proper b));
      held = newly_held_there;
      unfinished = λ x. no_finish b uncommitted (shard_node K (shard_of K x));
      took_none = λ x. ap (λ ts. count x (all_inputs ts)) won_before;
      made_none = λ x. ap (λ ts. count x (all_outputs ts)) won_before;
      spent = λ x. all_inputs-append x (committed past) newly;
      made = λ x. all_outputs-append x (committed past) newly;
      takes = λ x. ap (λ ts. count x (all_inputs ts)) won_new;
      makes = λ x. ap (λ ts. count x (all_outputs ts)) won_new;
      other_takes = λ c x o. ap (λ ts. count x (all_inputs ts)) (won_other c o);
      other_makes = λ c x o. ap (λ ts. count x (all_outputs ts)) (won_other c o);
      status = λ x. unchanged (λ J. status J x) (shard_node K (shard_of K x)) (record { node = node; what = Commit stamp b os }) past refl;
      arrived = λ x. unchanged (λ J. arrived J x) (shard_node K (shard_of K x)) (record { node = node; what = Commit stamp b os }) past refl;
      finished = λ c x. unchanged (λ J. has_finish J c) (shard_node K (shard_of K x)) (record { node = node; what = Commit stamp b os }) past refl;
      holds = λ c x. ap (λ a. count x (held_inputs a))
          (unchanged (λ J. lock_of J c) (shard_node K (shard_of K x)) (record { node = node; what = Commit stamp b os }) past refl);
    }

  -- Finish
  module _ (node stamp : ℕ) (b : Batch) (ds : List Bool)
      (next : Next K node (journal node past) (Finish stamp b ds)) (caused : IsCaused K (λ n. journal n past) node (Finish stamp b ds)) where
    finish_row : Row
    finish_row = record { node = node; what = Finish stamp b ds }

    slot_facts : (has_lock (journal node past) b ≡ true) × (has_finish (journal node past) b ≡ false)
    slot_facts = (st.journals node).locked b next.2 next.3

    decisions-decided : (os : List Outcome) (es : List Answered) → decisions os (entries es) ≡ decided (won_at os) es
    decisions-decided os [] = refl
    decisions-decided os (a ∷ es) = ap (λ ds. won_at os a.entry.place ∷ ds) (decisions-decided os es)

    -- by the tests of lists, what the Finish makes of the status
    status_made : (es : List Answered) (ds : List Bool) (x : Digest) (before : Status) → 0 < count x (made_outputs es ds)
        → finished_status es ds x before ≡ Unspent
    status_made es ds x before h = rw (count-has x (made_outputs es ds) h)

    status_returned : (es : List Answered) (ds : List Bool) (x : Digest) (before : Status) → count x (made_outputs es ds) ≡ 0
        → 0 < count x (returned_inputs es ds) → finished_status es ds x before ≡ Unspent
    status_returned es ds x before z h = grind (arith, count-has x (returned_inputs es ds))

    status_taken : (es : List Answered) (ds : List Bool) (x : Digest) (before : Status) → count x (made_outputs es ds) ≡ 0
        → count x (returned_inputs es ds) ≡ 0 → 0 < count x (taken_inputs es ds) → finished_status es ds x before ≡ Absent
    status_taken es ds x before z y h =
        rw (
          not_true (has (made_outputs es ds) x) (λ e. omega (arith, has-count x (made_outputs es ds) e)),
          not_true (has (returned_inputs es ds) x) (λ e. omega (arith, has-count x (returned_inputs es ds) e)),
          count-has x (taken_inputs es ds) h,
        )

    status_same : (es : List Answered) (ds : List Bool) (x : Digest) (before : Status) → count x (made_outputs es ds) ≡ 0
        → count x (returned_inputs es ds) ≡ 0 → count x (taken_inputs es ds) ≡ 0 → finished_status es ds x before ≡ before
    status_same es ds x before z y u =
        rw (
          not_true (has (made_outputs es ds) x) (λ e. omega (arith, has-count x (made_outputs es ds) e)),
          not_true (has (returned_inputs es ds) x) (λ e. omega (arith, has-count x (returned_inputs es ds) e)),
          not_true (has (taken_inputs es ds) x) (λ e. omega (arith, has-count x (taken_inputs es ds) e)),
        )

    itself : same_batch b b ≡ true
    itself = grind arith

    finish_head : (J : List Record) → has_finish (Finish stamp b ds ∷ J) b ≡ true
    finish_head J = rw itself

    finish_behind : (c : Batch) (J : List Record) → same_batch b c ≡ false → has_finish (Finish stamp b ds ∷ J) c ≡ has_finish J c
    finish_behind c J o = rw o

    -- at a hash of this shard
    module _ (x : Digest) (at_here : node ≡ shard_node K (shard_of K x)) where
      head : journal_at K (record { node = node; what = Finish stamp b ds } ∷ past) x ≡ Finish stamp b ds ∷ journal_at K past x
      head = head_at (record { node = node; what = Finish stamp b ds }) past (shard_node K (shard_of K x)) at_here

      is_locked : has_lock (journal_at K past x) b ≡ true
      is_locked = subst (λ n. has_lock (journal n past) b ≡ true) at_here slot_facts.0

      part_here : IsPart x 0 (txs_of (lane_journal K past b) b) (lock_of (journal_at K past x) b)
      part_here = is_part K x 0 (txs_of (lane_journal K past b) b) (lock_of (journal_at K past x) b) (st.lock_part (shard_of K x) b is_locked)

      ds_is : ds ≡ decided (won_at (outcomes_of (lane_journal K past b) b)) (lock_of (journal_at K past x) b)
      ds_is = subst (λ n. ds ≡ decisions (outcomes_of (lane_journal K past b) b) (entries (lock_of (journal n past) b))) at_here caused.1
          ∙ decisions-decided (outcomes_of (lane_journal K past b) b) (lock_of (journal_at K past x) b)

      won_is : won_by (won_at (outcomes_of (lane_journal K past b) b)) 0 (txs_of (lane_journal K past b) b) ≡ won_of K past b
      won_is = won_by-won_txs (won_at (outcomes_of (lane_journal K past b) b)) 0 (txs_of (lane_journal K past b) b)
          (outcomes_of (lane_journal K past b) b)
          (λ i. ap (won_at (outcomes_of (lane_journal K past b) b)) (omega arith))

      fits : FitsReplies (lock_of (journal_at K past x) b) ds
      fits = subst (λ n. FitsReplies (lock_of (journal n past) b) ds) at_here next.4

      finishes_here : FinishesAt (view K past) (view K (record { node = node; what = Finish stamp b ds } ∷ past)) b x
          (count x (made_outputs (lock_of (journal_at K past x) b) ds)) (count x (returned_inputs (lock_of (journal_at K past x) b) ds))
          (count x (taken_inputs (lock_of (journal_at K past x) b) ds))
      finishes_here = record {
        unfinished = subst (λ n. has_finish (journal n past) b ≡ false) at_here slot_facts.1;
        makes_is = ap (λ d. count x (made_outputs (lock_of (journal_at K past x) b) d)) ds_is
            ∙ count-made x (won_at (outcomes_of (lane_journal K past b) b)) part_here ∙ ap (λ ts. count x (all_outputs ts)) won_is;
        takes_is = ap (λ d. count x (taken_inputs (lock_of (journal_at K past x) b) d)) ds_is
            ∙ count-taken x (won_at (outcomes_of (lane_journal K past b) b)) part_here ∙ ap (λ ts. count x (all_inputs ts)) won_is;
        holds_is = count-held x (lock_of (journal_at K past x) b) ds fits;
        to_made = λ h. ap (λ J. status J x) head ∙ status_made (lock_of (journal_at K past x) b) ds x (status (journal_at K past x) x) h;
        to_returned = λ z h. ap (λ J. status J x) head ∙ status_returned (lock_of (journal_at K past x) b) ds x (status (journal_at K past x) x) z h;
        to_taken = λ z y h. ap (λ J. status J x) head ∙ status_taken (lock_of (journal_at K past x) b) ds x (status (journal_at K past x) x) z y h;
        untouched = λ z y u. ap (λ J. status J x) head ∙ status_same (lock_of (journal_at K past x) b) ds x (status (journal_at K past x) x) z y u;
        arrived = ap (λ J. arrived J x) head ∙ (let e : count x (made_outputs (lock_of (journal_at K past x) b) ds) + arrived (journal_at K past x) x
            ≡ arrived (journal_at K past x) x + count x (made_outputs (lock_of (journal_at K past x) b) ds) = omega arith in e);
        finished = ap (λ J. has_finish J b) head ∙ finish_head (journal_at K past x);
      }

    pub finish_changes : Finishes (view K past) (view K (record { node = node; what = Finish stamp b ds } ∷ past)) b
    finish_changes = record {
      at = λ x. elim (at_node node (shard_node K (shard_of K x))) [
        | at e ↦ here _ _ _ (finishes_here x e)
        | away e ↦ elsewhere (record {
          status = ap (λ J. status J x) (head_away (record { node = node; what = Finish stamp b ds }) past (shard_node K (shard_of K x)) e);
          arrived = ap (λ J. arrived J x) (head_away (record { node = node; what = Finish stamp b ds }) past (shard_node K (shard_of K x)) e);
          finished = λ c. ap (λ J. has_finish J c)
              (head_away (record { node = node; what = Finish stamp b ds }) past (shard_node K (shard_of K x)) e);
        })
      ];
      others = λ c x o. unchanged (λ J. has_finish J c) (shard_node K (shard_of K x)) (record { node = node; what = Finish stamp b ds }) past
          (finish_behind c (journal_at K past x) o);
      spent = λ x. ap (λ ts. count x (all_inputs ts)) (append-nil (committed past));
      made = λ x. ap (λ ts. count x (all_outputs ts)) (append-nil (committed past));
      takes = λ c x i. count x (all_inputs (won_txs
          (unchanged (λ J. txs_of J c) (c.lane / K.lanes) (record { node = node; what = Finish stamp b ds }) past refl i)
          (unchanged (λ J. outcomes_of J c) (c.lane / K.lanes) (record { node = node; what = Finish stamp b ds }) past refl i)));
      makes = λ c x i. count x (all_outputs (won_txs
          (unchanged (λ J. txs_of J c) (c.lane / K.lanes) (record { node = node; what = Finish stamp b ds }) past refl i)
          (unchanged (λ J. outcomes_of J c) (c.lane / K.lanes) (record { node = node; what = Finish stamp b ds }) past refl i)));
      holds = λ c x. ap (λ a. count x (held_inputs a))
          (unchanged (λ J. lock_of J c) (shard_node K (shard_of K x)) (record { node = node; what = Finish stamp b ds }) past refl);
    }

-- what a row that is next and caused does to the view: nothing, or what its Lock, its Commit or its Finish does
pub data ViewStep (P : Compact → Type 0) (v w : View) : Type 0 where
  no_change : w ≡ v → ViewStep P v w
  by_lock : (b : Batch) (held : Digest → ℕ) → Locks v w b held → ViewStep P v w
  by_commit : (b : Batch) (ts : List Compact) → Commits P v w b ts → ViewStep P v w
  by_finish : (b : Batch) → Finishes v w b → ViewStep P v w

pub view_step : (K : Shape) (P : Compact → Type 0) {genesis : Digest → ℕ} (past : List Row) → 0 < K.shards → Apart genesis P → Structure K P past
    → (node : ℕ) (r : Record) → Next K node (journal node past) r → IsCaused K (λ n. journal n past) node r
    → ViewStep P (view K past) (view K (record { node = node; what = r } ∷ past))
view_step K P past shards apart st node (Genesis header hs) next caused = absurd next
view_step K P past shards apart st node (Carry stamp header source hs numbers) next caused = absurd next
view_step K P past shards apart st node (Start header) next caused = absurd next
view_step K P past shards apart st node (CarryStart stamp header source numbers) next caused = absurd next
view_step K P past shards apart st node (Lock stamp b es) next caused =
    let step = lock_changes K P past st apart node stamp b es next caused in by_lock b step.0 step.1
view_step K P past shards apart st node (Finish stamp b ds) next caused = by_finish b (finish_changes K P past st node stamp b ds next caused)
view_step K P past shards apart st node (Prepare stamp b txs) next caused = no_change (prepare_view K P past st node stamp b txs next)
view_step K P past shards apart st node (Commit stamp b os) next caused =
    by_commit b (newly K P past st node stamp b os shards next caused) (commit_changes K P past st node stamp b os shards next caused)
view_step K P past shards apart st node another next caused =
    no_change (quiet_view K past (record { node = node; what = another }) (λ J c. refl) (λ J c. refl) (λ J x. refl) (λ J x. refl) (λ J c. refl)
    (λ J c. refl) refl)

-- any row that is next and caused keeps the invariant
pub inv_next : (K : Shape) (P : Compact → Type 0) (genesis : Digest → ℕ) (past : List Row) → 0 < K.shards → Apart genesis P → Structure K P past
    → Inv genesis P (view K past)
    → (node : ℕ) (r : Record) → Next K node (journal node past) r → IsCaused K (λ n. journal n past) node r
    → Inv genesis P (view K (record { node = node; what = r } ∷ past))
inv_next K P genesis past shards apart st inv node r next caused = elim (view_step K P past shards apart st node r next caused) [
  | no_change e ↦ subst (λ v. Inv genesis P v) (sym e) inv
  | by_lock b held step ↦ lock_kept inv b held step
  | by_commit b ts step ↦ commit_kept apart inv b ts step
  | by_finish b step ↦ finish_kept inv b step
]
