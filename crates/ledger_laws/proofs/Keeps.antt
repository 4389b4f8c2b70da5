-- Each row keeps what is known of the records of each batch.
use Rattle.std.proofs.Common.{◌≡◌, ◌⊎◌, inl, inr, ℕ, ◌/◌, Bool, true, false, ◌==◌, if◌then◌else◌, List, ◌∷◌, refl, sym, ap, ◌∙◌, subst, arith}
use Rattle.cbdc_model.specs.Causes.{IsCaused}
use Rattle.cbdc_model.specs.Ranges.{shard_node, lane_journal, part}
use Rattle.cbdc_model.specs.Records.{Shape, Batch, same_batch, Compact, Outcome, Answered, Record, Row, journal, Genesis, Lock, Finish, Start}
use Rattle.cbdc_model.specs.Records.{Prepare, Commit, lock_of, txs_of, Carry, CarryStart}
use Rattle.cbdc_model.specs.Replies.{entries}
use Rattle.ledger_laws.proofs.Next.{Next, has_lock, has_finish, has_prepare, has_commit, Each, AllProper}
use Rattle.ledger_laws.proofs.View.{same, other, same_or_not, same_batch_is}
use Rattle.ledger_laws.proofs.Rows.{Structure, unchanged, journals_next}

-- a row that has none of the records that `Structure` speaks of
module _ (K : Shape) (P : Compact → Type 0) (past : List Row) (st : Structure K P past) (row : Row)
    (next : Next K row.node (journal row.node past) row.what)
    (same_has_lock : (J : List Record) (b : Batch) → has_lock (row.what ∷ J) b ≡ has_lock J b)
    (same_lock : (J : List Record) (b : Batch) → lock_of (row.what ∷ J) b ≡ lock_of J b)
    (same_finish : (J : List Record) (b : Batch) → has_finish (row.what ∷ J) b ≡ has_finish J b)
    (more_prepare : (J : List Record) (b : Batch) → has_prepare J b ≡ true → has_prepare (row.what ∷ J) b ≡ true)
    (more_commit : (J : List Record) (b : Batch) → has_commit J b ≡ true → has_commit (row.what ∷ J) b ≡ true)
    (same_txs : (J : List Record) (b : Batch) → txs_of (row.what ∷ J) b ≡ txs_of J b)
  where
    prepare_kept : (n : ℕ) (b : Batch) → has_prepare (journal n past) b ≡ true → has_prepare (journal n (row ∷ past)) b ≡ true
    prepare_kept n b h = elim (row.node == n) as (λ c. has_prepare (if c then row.what ∷ journal n past else journal n past) b ≡ true) [
      | true ↦ more_prepare (journal n past) b h
      | false ↦ h
    ]

    commit_kept : (n : ℕ) (b : Batch) → has_commit (journal n past) b ≡ true → has_commit (journal n (row ∷ past)) b ≡ true
    commit_kept n b h = elim (row.node == n) as (λ c. has_commit (if c then row.what ∷ journal n past else journal n past) b ≡ true) [
      | true ↦ more_commit (journal n past) b h
      | false ↦ h
    ]

    pub quiet_keeps : Structure K P (row ∷ past)
    quiet_keeps = record {
      journals = journals_next K past st.journals row next;
      lock_prepared = λ n b h. prepare_kept (b.lane / K.lanes) b
          (st.lock_prepared n b (sym (unchanged (λ J. has_lock J b) n row past (same_has_lock (journal n past) b)) ∙ h));
      finish_committed = λ n b h. commit_kept (b.lane / K.lanes) b
          (st.finish_committed n b (sym (unchanged (λ J. has_finish J b) n row past (same_finish (journal n past) b)) ∙ h));
      lock_part = λ s b h. ap entries (unchanged (λ J. lock_of J b) (shard_node K s) row past (same_lock (journal (shard_node K s) past) b))
          ∙ st.lock_part s b (sym (unchanged (λ J. has_lock J b) (shard_node K s) row past (same_has_lock (journal (shard_node K s) past) b)) ∙ h)
          ∙ ap (λ ts. part K s 0 ts) (sym (unchanged (λ J. txs_of J b) (b.lane / K.lanes) row past (same_txs (journal (b.lane / K.lanes) past) b)));
      proper = λ b. subst (λ ts. Each P ts) (sym (unchanged (λ J. txs_of J b) (b.lane / K.lanes) row past
          (same_txs (journal (b.lane / K.lanes) past) b))) (st.proper b);
    }

lock_or_old : (node stamp : ℕ) (b : Batch) (es : List Answered) (past : List Row) (n : ℕ) (c : Batch)
    → has_lock (journal n (record { node = node; what = Lock stamp b es } ∷ past)) c ≡ true
    → ((same_batch b c ≡ true) × (node ≡ n)) ⊎ (has_lock (journal n past) c ≡ true)
lock_or_old node stamp b es past n c h = grind arith

finish_or_old : (node stamp : ℕ) (b : Batch) (ds : List Bool) (past : List Row) (n : ℕ) (c : Batch)
    → has_finish (journal n (record { node = node; what = Finish stamp b ds } ∷ past)) c ≡ true
    → ((same_batch b c ≡ true) × (node ≡ n)) ⊎ (has_finish (journal n past) c ≡ true)
finish_or_old node stamp b ds past n c h = grind arith

module _ (K : Shape) (P : Compact → Type 0) (past : List Row) (st : Structure K P past) where
  -- Lock
  module _ (node stamp : ℕ) (b : Batch) (es : List Answered)
      (next : Next K node (journal node past) (Lock stamp b es)) (caused : IsCaused K (λ n. journal n past) node (Lock stamp b es)) where
    lock_row : Row
    lock_row = record { node = node; what = Lock stamp b es }

    new_lock : (n : ℕ) (c : Batch) → has_lock (journal n (record { node = node; what = Lock stamp b es } ∷ past)) c ≡ true
        → ((same_batch b c ≡ true) × (node ≡ n)) ⊎ (has_lock (journal n past) c ≡ true)
    new_lock n c h = lock_or_old node stamp b es past n c h

    same_prepare : (n : ℕ) (c : Batch) → has_prepare (journal n (record { node = node; what = Lock stamp b es } ∷ past)) c
        ≡ has_prepare (journal n past) c
    same_prepare n c = unchanged (λ J. has_prepare J c) n (record { node = node; what = Lock stamp b es }) past refl

    no_lock_before : (c : Batch) → same_batch b c ≡ true → has_lock (journal node past) c ≡ true → ⊥
    no_lock_before c e h = grind (arith, (st.journals node).lock_below c)

    lock_of_other : (n : ℕ) (c : Batch) → same_batch b c ≡ false
        → lock_of (journal n (record { node = node; what = Lock stamp b es } ∷ past)) c ≡ lock_of (journal n past) c
    lock_of_other n c e = grind arith

    lock_of_elsewhere : (n : ℕ) (c : Batch) → (node ≡ n → ⊥)
        → lock_of (journal n (record { node = node; what = Lock stamp b es } ∷ past)) c ≡ lock_of (journal n past) c
    lock_of_elsewhere n c e = grind arith

    lock_of_new : (c : Batch) → same_batch b c ≡ true → lock_of (journal node (record { node = node; what = Lock stamp b es } ∷ past)) c ≡ es
    lock_of_new c e = grind arith

    lock_prepared_next : (n : ℕ) (c : Batch) → has_lock (journal n (record { node = node; what = Lock stamp b es } ∷ past)) c ≡ true
        → has_prepare (lane_journal K (record { node = node; what = Lock stamp b es } ∷ past) c) c ≡ true
    lock_prepared_next n c h = same_prepare (c.lane / K.lanes) c ∙ elim (new_lock n c h) [
      | inl new ↦ subst (λ d. has_prepare (lane_journal K past d) d ≡ true) (same_batch_is b c new.0) caused.0
      | inr old ↦ st.lock_prepared n c old
    ]

    lock_part_next : (s : ℕ) (c : Batch) → has_lock (journal (shard_node K s) (record { node = node; what = Lock stamp b es } ∷ past)) c ≡ true
        → entries (lock_of (journal (shard_node K s) (record { node = node; what = Lock stamp b es } ∷ past)) c)
        ≡ part K s 0 (txs_of (lane_journal K (record { node = node; what = Lock stamp b es } ∷ past) c) c)
    lock_part_next s c h =
        let same_txs : txs_of (lane_journal K (record { node = node; what = Lock stamp b es } ∷ past) c) c ≡ txs_of (lane_journal K past c) c
        = unchanged (λ J. txs_of J c) (c.lane / K.lanes) (record { node = node; what = Lock stamp b es }) past refl in
        elim (new_lock (shard_node K s) c h) [
          | inl new ↦
              let is : lock_of (journal (shard_node K s) (record { node = node; what = Lock stamp b es } ∷ past)) c ≡ es
              = subst (λ n. lock_of (journal n (record { node = node; what = Lock stamp b es } ∷ past)) c ≡ es) new.1 (lock_of_new c new.0) in
              ap entries is ∙ subst (λ d. entries es ≡ part K s 0 (txs_of (lane_journal K past d) d)) (same_batch_is b c new.0) (caused.1 s new.1)
              ∙ ap (λ ts. part K s 0 ts) (sym same_txs)
          | inr old ↦ ap entries (same_lock s c old) ∙ st.lock_part s c old ∙ ap (λ ts. part K s 0 ts) (sym same_txs)
        ]
      where
        same_lock : (s : ℕ) (c : Batch) → has_lock (journal (shard_node K s) past) c ≡ true
            → lock_of (journal (shard_node K s) (record { node = node; what = Lock stamp b es } ∷ past)) c ≡ lock_of (journal (shard_node K s) past) c
        same_lock s c old = elim (same_batch b c) as
            (λ v. same_batch b c ≡ v → lock_of (journal (shard_node K s) (record { node = node; what = Lock stamp b es } ∷ past)) c
            ≡ lock_of (journal (shard_node K s) past) c) [
              | true ↦ λ e. lock_of_elsewhere (shard_node K s) c
                  (λ is. no_lock_before c e (subst (λ n. has_lock (journal n past) c ≡ true) (sym is) old))
              | false ↦ λ e. lock_of_other (shard_node K s) c e
            ] refl

    pub lock_keeps : Structure K P (record { node = node; what = Lock stamp b es } ∷ past)
    lock_keeps = record {
      journals = journals_next K past st.journals (record { node = node; what = Lock stamp b es }) next;
      lock_prepared = lock_prepared_next;
      finish_committed = λ n c h. unchanged (λ J. has_commit J c) (c.lane / K.lanes) (record { node = node; what = Lock stamp b es }) past refl
          ∙ st.finish_committed n c (sym (unchanged (λ J. has_finish J c) n (record { node = node; what = Lock stamp b es }) past refl) ∙ h);
      lock_part = lock_part_next;
      proper = λ c. subst (λ ts. Each P ts) (sym (unchanged (λ J. txs_of J c) (c.lane / K.lanes) (record { node = node; what = Lock stamp b es })
          past refl)) (st.proper c);
    }

  -- Prepare
  module _ (node stamp : ℕ) (b : Batch) (txs : List Compact)
      (next : Next K node (journal node past) (Prepare stamp b txs)) (proper : Each P txs) where
    fresh : has_prepare (lane_journal K past b) b ≡ true → ⊥
    fresh h =
        let h' : has_prepare (journal node past) b ≡ true = subst (λ n. has_prepare (journal n past) b ≡ true) (sym next.2) h in
        omega (arith, (st.journals node).prepare_below b h', next.4)

    txs_of_other : (n : ℕ) (c : Batch) → same_batch b c ≡ false
        → txs_of (journal n (record { node = node; what = Prepare stamp b txs } ∷ past)) c ≡ txs_of (journal n past) c
    txs_of_other n c e = grind arith

    txs_of_new : (c : Batch) → same_batch b c ≡ true → txs_of (journal node (record { node = node; what = Prepare stamp b txs } ∷ past)) c ≡ txs
    txs_of_new c e = grind arith

    prepared_kept : (n : ℕ) (c : Batch) → has_prepare (journal n past) c ≡ true
        → has_prepare (journal n (record { node = node; what = Prepare stamp b txs } ∷ past)) c ≡ true
    prepared_kept n c h = grind arith

    prepare_lock_part : (s : ℕ) (c : Batch) → has_lock (journal (shard_node K s) (record { node = node; what = Prepare stamp b txs } ∷ past)) c ≡ true
        → entries (lock_of (journal (shard_node K s) (record { node = node; what = Prepare stamp b txs } ∷ past)) c)
        ≡ part K s 0 (txs_of (lane_journal K (record { node = node; what = Prepare stamp b txs } ∷ past) c) c)
    prepare_lock_part s c h =
        let old : has_lock (journal (shard_node K s) past) c ≡ true
        = sym (unchanged (λ J. has_lock J c) (shard_node K s) (record { node = node; what = Prepare stamp b txs }) past refl) ∙ h in
        elim (same_or_not b c) [
          | same e ↦ absurd (fresh (subst (λ d. has_prepare (lane_journal K past d) d ≡ true) (sym e) (st.lock_prepared (shard_node K s) c old)))
          | other o ↦ ap entries (unchanged (λ J. lock_of J c) (shard_node K s) (record { node = node; what = Prepare stamp b txs }) past refl)
              ∙ st.lock_part s c old ∙ ap (λ ts. part K s 0 ts) (sym (txs_of_other (c.lane / K.lanes) c o))
        ]

    prepare_proper : (c : Batch) → Each P (txs_of (lane_journal K (record { node = node; what = Prepare stamp b txs } ∷ past) c) c)
    prepare_proper c = elim (same_batch b c) as (λ v. same_batch b c ≡ v
        → Each P (txs_of (lane_journal K (record { node = node; what = Prepare stamp b txs } ∷ past) c) c)) [
          | true ↦ λ e.
              let here : node ≡ c.lane / K.lanes = subst (λ d. node ≡ d.lane / K.lanes) (same_batch_is b c e) next.2 in
              subst (λ n. Each P (txs_of (journal n (record { node = node; what = Prepare stamp b txs } ∷ past)) c)) here
              (subst (λ ts. Each P ts) (sym (txs_of_new c e)) proper)
          | false ↦ λ e. subst (λ ts. Each P ts) (sym (txs_of_other (c.lane / K.lanes) c e)) (st.proper c)
        ] refl

    pub prepare_keeps : Structure K P (record { node = node; what = Prepare stamp b txs } ∷ past)
    prepare_keeps = record {
      journals = journals_next K past st.journals (record { node = node; what = Prepare stamp b txs }) next;
      lock_prepared = λ n c h. prepared_kept (c.lane / K.lanes) c (st.lock_prepared n c
          (sym (unchanged (λ J. has_lock J c) n (record { node = node; what = Prepare stamp b txs }) past refl) ∙ h));
      finish_committed = λ n c h. unchanged (λ J. has_commit J c) (c.lane / K.lanes) (record { node = node; what = Prepare stamp b txs }) past refl
          ∙ st.finish_committed n c (sym (unchanged (λ J. has_finish J c) n (record { node = node; what = Prepare stamp b txs }) past refl) ∙ h);
      lock_part = prepare_lock_part;
      proper = prepare_proper;
    }

  -- Finish
  module _ (node stamp : ℕ) (b : Batch) (ds : List Bool)
      (next : Next K node (journal node past) (Finish stamp b ds)) (caused : IsCaused K (λ n. journal n past) node (Finish stamp b ds)) where
    new_finish : (n : ℕ) (c : Batch) → has_finish (journal n (record { node = node; what = Finish stamp b ds } ∷ past)) c ≡ true
        → ((same_batch b c ≡ true) × (node ≡ n)) ⊎ (has_finish (journal n past) c ≡ true)
    new_finish n c h = finish_or_old node stamp b ds past n c h

    pub finish_keeps : Structure K P (record { node = node; what = Finish stamp b ds } ∷ past)
    finish_keeps = record {
      journals = journals_next K past st.journals (record { node = node; what = Finish stamp b ds }) next;
      lock_prepared = λ n c h. unchanged (λ J. has_prepare J c) (c.lane / K.lanes) (record { node = node; what = Finish stamp b ds }) past refl
          ∙ st.lock_prepared n c (sym (unchanged (λ J. has_lock J c) n (record { node = node; what = Finish stamp b ds }) past refl) ∙ h);
      finish_committed = λ n c h. unchanged (λ J. has_commit J c) (c.lane / K.lanes) (record { node = node; what = Finish stamp b ds }) past refl
          ∙ elim (new_finish n c h) [
            | inl new ↦ subst (λ d. has_commit (lane_journal K past d) d ≡ true) (same_batch_is b c new.0) caused.0
            | inr old ↦ st.finish_committed n c old
          ];
      lock_part = λ s c h. ap entries (unchanged (λ J. lock_of J c) (shard_node K s) (record { node = node; what = Finish stamp b ds }) past refl)
          ∙ st.lock_part s c (sym (unchanged (λ J. has_lock J c) (shard_node K s) (record { node = node; what = Finish stamp b ds }) past refl) ∙ h)
          ∙ ap (λ ts. part K s 0 ts) (sym (unchanged (λ J. txs_of J c) (c.lane / K.lanes) (record { node = node; what = Finish stamp b ds }) past
          refl));
      proper = λ c. subst (λ ts. Each P ts) (sym (unchanged (λ J. txs_of J c) (c.lane / K.lanes) (record { node = node; what = Finish stamp b ds })
          past refl)) (st.proper c);
    }

commit_stays : (J : List Record) (stamp : ℕ) (b c : Batch) (os : List Outcome) → has_commit J c ≡ true → has_commit (Commit stamp b os ∷ J) c ≡ true
commit_stays J stamp b c os h = grind arith

-- any record that is next, is caused, and has transactions that pass
pub keeps : (K : Shape) (P : Compact → Type 0) (past : List Row) → Structure K P past → (node : ℕ) (r : Record)
    → Next K node (journal node past) r → IsCaused K (λ n. journal n past) node r → AllProper P r
    → Structure K P (record { node = node; what = r } ∷ past)
keeps K P past st node (Genesis header hs) next caused proper = absurd next
keeps K P past st node (Carry stamp header source hs numbers) next caused proper = absurd next
keeps K P past st node (Start header) next caused proper = absurd next
keeps K P past st node (CarryStart stamp header source numbers) next caused proper = absurd next
keeps K P past st node (Lock stamp b es) next caused proper = lock_keeps K P past st node stamp b es next caused
keeps K P past st node (Finish stamp b ds) next caused proper = finish_keeps K P past st node stamp b ds next caused
keeps K P past st node (Prepare stamp b txs) next caused proper = prepare_keeps K P past st node stamp b txs next proper
keeps K P past st node (Commit stamp b os) next caused proper = quiet_keeps K P past st (record { node = node; what = Commit stamp b os }) next
    (λ J c. refl) (λ J c. refl) (λ J c. refl) (λ J c h. h) (λ J c h. commit_stays J stamp b c os h) (λ J c. refl)
keeps K P past st node another next caused proper = quiet_keeps K P past st (record { node = node; what = another }) next
    (λ J c. refl) (λ J c. refl) (λ J c. refl) (λ J c h. h) (λ J c h. h) (λ J c. refl)
