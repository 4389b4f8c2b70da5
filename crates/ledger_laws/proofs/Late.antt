-- At most one batch of a lane has stamps above 2^62.
use Rattle.std.proofs.Common.{◌≡◌, ◌⊎◌, inl, inr, ℕ, ◌+◌, ◌-◌, ◌^◌, ◌<◌, ◌≤◌, ◌/◌, true, false, ◌&&◌, ◌==◌, List, [], ◌∷◌, ◌++◌, Some, None, is_some}
use Rattle.std.proofs.Common.{refl, sym, ap, ◌∙◌, subst, arith}
use Rattle.cbdc_model.specs.Records.{Shape, Batch, Compact, Record, Row, journal, record_of, kind_of, is_of, stamp_in, lock_of, txs_of, Genesis, Lock}
use Rattle.cbdc_model.specs.Records.{Finish, Forget, Start, Prepare, Commit, Discard, Done, Upgrade, Carry, CarryStart, Seal}
use Rattle.cbdc_model.specs.Ranges.{shard_node, Concerned}
use Rattle.cbdc_model.specs.Grammar.{IsInGrammar}
use Rattle.cbdc_model.specs.Slots.{slot, InPrepare, InCommit, InDiscard}
use Rattle.cbdc_model.specs.Clean.{IsProperCompact}
use Rattle.cbdc_model.specs.History.{Minted, minted, header_of, first_rows}
use Rattle.ledger_laws.specs.Phases.{IsLate}
use Rattle.ledger_laws.specs.Laws.{LateLaw}
use Rattle.ledger_laws.proofs.Next.{Next, has_lock, Steady}
use Rattle.ledger_laws.proofs.Slots.{JournalOk}
use Rattle.ledger_laws.proofs.More.{MoreOk, has_done}
use Rattle.ledger_laws.proofs.Dones.{DoneOk, PhaseOk}
use Rattle.ledger_laws.proofs.Order.{OrderOk}
use Rattle.ledger_laws.proofs.Rows.{at, away, at_node, head_at, head_away}
use Rattle.ledger_laws.proofs.View.{same_batch_is}
use Rattle.ledger_laws.proofs.Lookups.{true_false}
use Rattle.ledger_laws.proofs.First.{journal_first, all_first}
use Rattle.ledger_laws.proofs.Moves.{none_of, not_empty, all_structure, all_more}
use Rattle.ledger_laws.proofs.ByKind.{split_test, test_batch, test_step, some_is, found_new, found_passes, found_prepare}
use Rattle.ledger_laws.proofs.Standing.{Facts, standing}
use Rattle.ledger_laws.proofs.Recovered.{all_dones, all_phases}
use Rattle.ledger_laws.proofs.Repeats.{all_order}
use Rattle.ledger_laws.proofs.Phases.{in_order, after_earlier, older_locks, older_finishes, older_forgets}
use Rattle.ledger_laws.proofs.Ledger.{steady}

-- in one journal nothing of a batch comes behind its Done
module _ (K : Shape) (n : ℕ) (J : List Record) (ok : JournalOk J) (more : MoreOk J) (phases : PhaseOk J) (dones : DoneOk K n J) where
  at_shard : (b : Batch) → K.coordinators ≤ n → has_done J b ≡ true → ⊥
  at_shard b le h = true_false _ (phases.done_prepared b h).0 (dones.pure b le)

  nothing_behind : (r : Record) (b : Batch) → Next K n J r → is_of b r ≡ true → has_done J b ≡ true → ⊥
  nothing_behind (Genesis header hs) b next t h = absurd next
  nothing_behind (Start header) b next t h = absurd next
  nothing_behind (Prepare stamp c txs) b next t h =
      let e : c ≡ b = same_batch_is c b t in
      let m : b.number ≡ (slot J b.lane).number + 1 = subst (λ d. d.number ≡ (slot J d.lane).number + 1) e next.4 in
      omega (arith, more.done_below b h)
  nothing_behind (Commit stamp c os) b next t h =
      let e : c ≡ b = same_batch_is c b t in
      true_false _ h (more.in_prepare b (subst (λ d. (slot J d.lane).phase ≡ InPrepare) e next.3)
      (subst (λ d. (slot J d.lane).number ≡ d.number) e next.4)).1
  nothing_behind (Discard stamp c) b next t h =
      let e : c ≡ b = same_batch_is c b t in
      true_false _ h (more.in_commit b (subst (λ d. (slot J d.lane).phase ≡ InCommit) e next.3)
      (subst (λ d. (slot J d.lane).number ≡ d.number) e next.4)).1
  nothing_behind (Done stamp c) b next t h =
      let e : c ≡ b = same_batch_is c b t in
      true_false _ h (more.in_discard b (subst (λ d. (slot J d.lane).phase ≡ InDiscard) e next.3)
      (subst (λ d. (slot J d.lane).number ≡ d.number) e next.4))
  nothing_behind (Carry stamp header source hs numbers) b next t h = next
  nothing_behind (CarryStart stamp header source numbers) b next t h = next
  nothing_behind (Upgrade stamp batch) b next t h = cc
  nothing_behind (Seal stamp to shards) b next t h = cc
  nothing_behind other b next t h = at_shard b next.1.0 h

record LastDone (J : List Record) : Type 0 where
  le : (kind : ℕ) (b : Batch) → has_done J b ≡ true → stamp_in (record_of kind J b) ≤ stamp_in (record_of 9 J b)

next_last : (K : Shape) (n : ℕ) (J : List Record) (r : Record) → JournalOk J → MoreOk J → PhaseOk J → DoneOk K n J → OrderOk (r ∷ J) → Next K n J r
    → LastDone J → LastDone (r ∷ J)
next_last K n J r ok more phases dones order next last = record {
  le = λ kind b h. elim ((kind_of r == 9) && is_of b r) as
      (λ t. ((kind_of r == 9) && is_of b r) ≡ t → stamp_in (record_of kind (r ∷ J) b) ≤ stamp_in (record_of 9 (r ∷ J) b)) [
        | true ↦ λ t. subst (λ o. stamp_in (record_of kind (r ∷ J) b) ≤ stamp_in o) (sym (found_new 9 r J b t)) (order.stamps_le kind b)
        | false ↦ λ t.
            let before : has_done J b ≡ true = sym (ap is_some (test_step 9 r J b t)) ∙ h in
            elim ((kind_of r == kind) && is_of b r) as
            (λ u. ((kind_of r == kind) && is_of b r) ≡ u → stamp_in (record_of kind (r ∷ J) b) ≤ stamp_in (record_of 9 (r ∷ J) b)) [
              | true ↦ λ u. absurd (nothing_behind K n J ok more phases dones r b next (test_batch kind b r u) before)
              | false ↦ λ u. both_same (ap stamp_in (test_step kind r J b u)) (ap stamp_in (test_step 9 r J b t)) (last.le kind b before)
            ] refl
      ] refl;
}
  where
    both_same : {a b c d : ℕ} → a ≡ b → c ≡ d → b ≤ d → a ≤ c
    both_same e f h = omega arith

module _ (K : Shape) (minting : Minted) (P : Compact → Type 0) (shards : 0 < K.shards) where
  abbrev whole : List Row → List Row
  whole later = later ++ first_rows K minting

  all_last : (later : List Row) → Steady K minting P later → (n : ℕ) → LastDone (journal n (whole later))
  all_last [] kept n = record {
    le = λ kind b h. absurd (true_false _ h (none_of 9 (journal n (first_rows K minting))
        (journal_first n (first_rows K minting) (all_first K minting P shards)) b));
  }
  all_last (row ∷ later) kept n = elim (at_node row.node n) [
    | away e ↦ subst (λ J. LastDone J) (sym (head_away row (whole later) n e)) (all_last later kept.3 n)
    | at e ↦ subst (λ J. LastDone J) (sym (head_at row (whole later) n e)) (subst (λ k. LastDone (row.what ∷ journal k (whole later))) e
        (next_last K row.node (journal row.node (whole later)) row.what ((all_structure K minting P shards later kept.3).journals row.node)
        (all_more K minting P shards later kept.3 row.node)
        (all_phases K minting P shards later kept.3 row.node) (all_dones K minting P shards later kept.3 row.node)
        (subst (λ J. OrderOk J) (head_at row (whole later) row.node refl) (all_order K minting P shards (row ∷ later) kept row.node)) kept.0
        (all_last later kept.3 row.node)))
  ]

  -- a record that is found was next, and is in the grammar
  pub was_next : (later : List Row) → Steady K minting P later → (n kind : ℕ) (b : Batch) (r : Record)
      → record_of kind (journal n (whole later)) b ≡ Some r
      → (rest : List Record) × Next K n rest r × IsInGrammar (header_of K minting.id n) r
  was_next [] kept n kind b r e =
      absurd (true_false _ (ap is_some e) (none_of kind (journal n (first_rows K minting))
      (journal_first n (first_rows K minting) (all_first K minting P shards)) b))
  was_next (row ∷ later) kept n kind b r e = elim (at_node row.node n) [
    | away a ↦ was_next later kept.3 n kind b r (ap (λ J. record_of kind J b) (sym (head_away row (whole later) n a)) ∙ e)
    | at a ↦
        let e' : record_of kind (row.what ∷ journal n (whole later)) b ≡ Some r =
        ap (λ J. record_of kind J b) (sym (head_at row (whole later) n a)) ∙ e in
        elim ((kind_of row.what == kind) && is_of b row.what) as
        (λ t. ((kind_of row.what == kind) && is_of b row.what) ≡ t
        → (rest : List Record) × Next K n rest r × IsInGrammar (header_of K minting.id n) r) [
          | true ↦ λ t.
              let is : row.what ≡ r = some_is row.what r (sym (found_new kind row.what (journal n (whole later)) b t) ∙ e') in (
                journal n (whole later),
                subst (λ q. Next K n (journal n (whole later)) q) is (subst (λ m. Next K m (journal m (whole later)) row.what) a kept.0),
                subst (λ q. IsInGrammar (header_of K minting.id n) q) is (subst (λ m. IsInGrammar (header_of K minting.id m) row.what) a kept.4),
              )
          | false ↦ λ t. was_next later kept.3 n kind b r (sym (test_step kind row.what (journal n (whole later)) b t) ∙ e')
        ] refl
  ]

  module _ (later : List Row) (kept : Steady K minting P later) where
    abbrev J : ℕ → List Record
    J n = journal n (whole later)

    concerned_at : (s : ℕ) (b : Batch) → s < K.shards → has_lock (J (shard_node K s)) b ≡ true → Concerned K (txs_of (J (b.lane / K.lanes)) b) s
    concerned_at s b lt h = (
      lt,
      not_empty (lock_of (J (shard_node K s)) b) _ ((all_structure K minting P shards later kept).lock_part s b h)
          ((all_more K minting P shards later kept (shard_node K s)).lock_some b h),
    )

    -- of any record of a batch: its Prepare stands
    prepared : (n kind : ℕ) (b : Batch) (r : Record) → record_of kind (J n) b ≡ Some r → ((kind_of r == kind) && is_of b r) ≡ true
        → is_some (record_of 6 (J (b.lane / K.lanes)) b) ≡ true
    prepared n kind b r e t = by_record r e (test_batch kind b r t) t (standing K minting P shards later kept n kind b r e)
        (was_next later kept n kind b r e)
      where
        by_record : (r : Record) → record_of kind (J n) b ≡ Some r → is_of b r ≡ true → ((kind_of r == kind) && is_of b r) ≡ true → Facts K J n r
            → (rest : List Record) × Next K n rest r × IsInGrammar (header_of K minting.id n) r
            → is_some (record_of 6 (J (b.lane / K.lanes)) b) ≡ true
        by_record (Genesis header hs) e i t f w = absurd w.1
        by_record (Start header) e i t f w = absurd w.1
        by_record (Carry stamp header source hs numbers) e i t f w = absurd w.1
        by_record (CarryStart stamp header source numbers) e i t f w = absurd w.1
        by_record (Upgrade stamp batch) e i t f w = absurd (let z : false ≡ true = i in cc)
        by_record (Seal stamp to shards) e i t f w = absurd (let z : false ≡ true = i in cc)
        by_record (Lock stamp c es) e i t f w = subst (λ d. is_some (record_of 6 (J (d.lane / K.lanes)) d) ≡ true) (same_batch_is c b i) f.0
        by_record (Finish stamp c ds) e i t f w =
            ((all_structure K minting P shards later kept).journals (b.lane / K.lanes)).commit_prepared b
            (subst (λ d. is_some (record_of 7 (J (d.lane / K.lanes)) d) ≡ true) (same_batch_is c b i) f.0)
        by_record (Forget stamp c) e i t f w = ((in_order K minting P shards later kept b).discard
            (subst (λ d. is_some (record_of 8 (J (d.lane / K.lanes)) d) ≡ true) (same_batch_is c b i) f.0)).0
        by_record (Prepare stamp c txs) e i t f w =
            let k : 6 ≡ kind = (split_test 6 kind c b t).0 in
            let home : n ≡ b.lane / K.lanes = subst (λ d. n ≡ d.lane / K.lanes) (same_batch_is c b i) w.1.2 in
            subst (λ m. is_some (record_of 6 (J m) b) ≡ true) home (subst (λ v. is_some (record_of v (J n) b) ≡ true) (sym k) (ap is_some e))
        by_record (Commit stamp c os) e i t f w = subst (λ d. is_some (record_of 6 (J (d.lane / K.lanes)) d) ≡ true) (same_batch_is c b i) f.0
        by_record (Discard stamp c) e i t f w = subst (λ d. is_some (record_of 6 (J (d.lane / K.lanes)) d) ≡ true) (same_batch_is c b i) f.0
        by_record (Done stamp c) e i t f w = subst (λ d. is_some (record_of 6 (J (d.lane / K.lanes)) d) ≡ true) (same_batch_is c b i) f.0

    -- and none is newer than its Done
    done_last : (n kind : ℕ) (b : Batch) (r : Record) → record_of kind (J n) b ≡ Some r → ((kind_of r == kind) && is_of b r) ≡ true
        → is_some (record_of 9 (J (b.lane / K.lanes)) b) ≡ true → stamp_in (record_of kind (J n) b) ≤ stamp_in (record_of 9 (J (b.lane / K.lanes)) b)
    done_last n kind b r e t done = by_record r e (test_batch kind b r t) t (standing K minting P shards later kept n kind b r e)
        (was_next later kept n kind b r e)
      where
        at_home : n ≡ b.lane / K.lanes → stamp_in (record_of kind (J n) b) ≤ stamp_in (record_of 9 (J (b.lane / K.lanes)) b)
        at_home home = subst (λ m. stamp_in (record_of kind (J m) b) ≤ stamp_in (record_of 9 (J (b.lane / K.lanes)) b)) (sym home)
            ((all_last later kept (b.lane / K.lanes)).le kind b done)

        committed : is_some (record_of 7 (J (b.lane / K.lanes)) b) ≡ true
        committed = ((all_phases K minting P shards later kept (b.lane / K.lanes)).done_prepared b done).1

        shard_is : K.coordinators ≤ n → n ≡ shard_node K (n - K.coordinators)
        shard_is le = omega arith

        below : (m : ℕ) → stamp_in (record_of m (J (b.lane / K.lanes)) b) ≤ stamp_in (record_of 9 (J (b.lane / K.lanes)) b)
        below m = (all_last later kept (b.lane / K.lanes)).le m b done

        through : (m k : ℕ) → k ≡ kind → n ≡ shard_node K (n - K.coordinators)
            → stamp_in (record_of k (J (shard_node K (n - K.coordinators))) b) < stamp_in (record_of m (J (b.lane / K.lanes)) b)
            → stamp_in (record_of kind (J n) b) ≤ stamp_in (record_of 9 (J (b.lane / K.lanes)) b)
        through m k same is lt =
            let here : stamp_in (record_of k (J n) b) < stamp_in (record_of m (J (b.lane / K.lanes)) b) =
            subst (λ v. stamp_in (record_of k (J v) b) < stamp_in (record_of m (J (b.lane / K.lanes)) b)) (sym is) lt in
            let as_kind : stamp_in (record_of kind (J n) b) < stamp_in (record_of m (J (b.lane / K.lanes)) b) =
            subst (λ v. stamp_in (record_of v (J n) b) < stamp_in (record_of m (J (b.lane / K.lanes)) b)) same here in
            omega (arith, below m)

        discarded : (s : ℕ) → s < K.shards → has_lock (J (shard_node K s)) b ≡ true → is_some (record_of 8 (J (b.lane / K.lanes)) b) ≡ true
        discarded s lt locked = ((in_order K minting P shards later kept b).forget s
            (((in_order K minting P shards later kept b).done done).1 s (concerned_at s b lt locked)).0).0

        by_record : (r : Record) → record_of kind (J n) b ≡ Some r → is_of b r ≡ true → ((kind_of r == kind) && is_of b r) ≡ true → Facts K J n r
            → (rest : List Record) × Next K n rest r × IsInGrammar (header_of K minting.id n) r
            → stamp_in (record_of kind (J n) b) ≤ stamp_in (record_of 9 (J (b.lane / K.lanes)) b)
        by_record (Genesis header hs) e i t f w = absurd w.1
        by_record (Start header) e i t f w = absurd w.1
        by_record (Carry stamp header source hs numbers) e i t f w = absurd w.1
        by_record (CarryStart stamp header source numbers) e i t f w = absurd w.1
        by_record (Upgrade stamp batch) e i t f w = absurd (let z : false ≡ true = i in cc)
        by_record (Seal stamp to shards) e i t f w = absurd (let z : false ≡ true = i in cc)
        by_record (Lock stamp c es) e i t f w =
            through 7 2 (split_test 2 kind c b t).0 (shard_is w.1.1.0)
            (older_locks K minting P shards later kept b committed (n - K.coordinators)
            (let h : n < K.coordinators + K.shards = w.1.1.1 in let l : K.coordinators ≤ n = w.1.1.0 in omega arith))
        by_record (Finish stamp c ds) e i t f w =
            let is : n ≡ shard_node K (n - K.coordinators) = shard_is w.1.1.0 in
            let lt : n - K.coordinators < K.shards =
            (let h : n < K.coordinators + K.shards = w.1.1.1 in let l : K.coordinators ≤ n = w.1.1.0 in omega arith) in
            let locked : has_lock (J (shard_node K (n - K.coordinators))) b ≡ true =
            subst (λ m. has_lock (J m) b ≡ true) is (subst (λ d. has_lock (J n) d ≡ true) (same_batch_is c b i) f.1) in
            through 8 3 (split_test 3 kind c b t).0 is
            (older_finishes K minting P shards later kept b (discarded (n - K.coordinators) lt locked) (n - K.coordinators) lt)
        by_record (Forget stamp c) e i t f w =
            through 9 4 (split_test 4 kind c b t).0 (shard_is w.1.1.0)
            (older_forgets K minting P shards later kept b done (n - K.coordinators)
            (let h : n < K.coordinators + K.shards = w.1.1.1 in let l : K.coordinators ≤ n = w.1.1.0 in omega arith))
        by_record (Prepare stamp c txs) e i t f w = at_home (subst (λ d. n ≡ d.lane / K.lanes) (same_batch_is c b i) w.1.2)
        by_record (Commit stamp c os) e i t f w = at_home (subst (λ d. n ≡ d.lane / K.lanes) (same_batch_is c b i) w.1.2)
        by_record (Discard stamp c) e i t f w = at_home (subst (λ d. n ≡ d.lane / K.lanes) (same_batch_is c b i) w.1.2)
        by_record (Done stamp c) e i t f w = at_home (subst (λ d. n ≡ d.lane / K.lanes) (same_batch_is c b i) w.1.2)

    -- a Prepare has an early stamp
    early : (b : Batch) → is_some (record_of 6 (J (b.lane / K.lanes)) b) ≡ true → stamp_in (record_of 6 (J (b.lane / K.lanes)) b) ≤ 2 ^ 62
    early b h =
        let f = found_prepare (J (b.lane / K.lanes)) b h in
        subst (λ o. stamp_in o ≤ 2 ^ 62) (sym f.2) (was_next later kept (b.lane / K.lanes) 6 b (Prepare f.0 b f.1) f.2).2.0.1

    -- a late record is one
    found : (n kind : ℕ) (b : Batch) → 2 ^ 62 < stamp_in (record_of kind (J n) b) → (r : Record) × (record_of kind (J n) b ≡ Some r)
    found n kind b lt = elim (record_of kind (J n) b) as (λ o. 2 ^ 62 < stamp_in o → (r : Record) × (o ≡ Some r)) [
      | None ↦ λ h. absurd (omega arith)
      | Some r ↦ λ h. (r, refl)
    ] lt

    earlier : (c b : Batch) → IsLate J c → IsLate J b → c.lane ≡ b.lane → c.number < b.number → ⊥
    earlier c b lc lb lanes lt =
        let rc = found lc.0 lc.1 c lc.2 in
        let rb = found lb.0 lb.1 b lb.2 in
        let tc : ((kind_of rc.0 == lc.1) && is_of c rc.0) ≡ true = found_passes lc.1 (J lc.0) c rc.0 rc.1 in
        let p : is_some (record_of 6 (J (c.lane / K.lanes)) c) ≡ true = prepared lc.0 lc.1 c rc.0 rc.1 tc in
        let q : is_some (record_of 6 (J (b.lane / K.lanes)) b) ≡ true = prepared lb.0 lb.1 b rb.0 rb.1 (found_passes lb.1 (J lb.0) b rb.0 rb.1) in
        let d = after_earlier K minting P shards later kept c b lanes lt p q in
        omega (arith, d.1, early b q, done_last lc.0 lc.1 c rc.0 rc.1 tc d.0, lc.2)

    pub one_late : (b c : Batch) → IsLate J b → IsLate J c → b.lane ≡ c.lane → b ≡ c
    one_late b c lb lc lanes = elim (three b.number c.number) [
      | inl lt ↦ absurd (earlier b c lb lc lanes lt)
      | inr more ↦ elim more [
        | inl e ↦ (λ i. record { lane = lanes i; number = e i })
        | inr gt ↦ absurd (earlier c b lc lb (sym lanes) gt)
      ]
    ]
      where
        three : (m n : ℕ) → (m < n) ⊎ ((m ≡ n) ⊎ (n < m))
        three m n = grind arith

pub late_law : LateLaw
late_law K mint txs later b c shards kept lb lc lanes =
    one_late K (minted mint) (IsProperCompact txs) shards later (steady K (minted mint) (IsProperCompact txs) later kept) b c lb lc lanes
