-- Where every lane is idle, no hash waits and none is still to come.
use Rattle.std.proofs.Common.{◌≡◌, ◌⊎◌, inl, inr, ℕ, ◌<◌, ◌≤◌, ◌/◌, true, false, ◌&&◌, ◌==◌, List, [], ◌∷◌, ◌++◌, length, is_some, refl, sym, ap, ◌∙◌}
use Rattle.std.proofs.Common.{subst, arith}
use Rattle.cbdc_model.specs.Causes.{at_shards, AllHave, IsCaused}
use Rattle.cbdc_model.specs.History.{first_rows, won_of, all_outputs, Minted}
use Rattle.cbdc_model.specs.Outcomes.{won_txs, won_at}
use Rattle.cbdc_model.specs.Ranges.{shard_of, shard_node, journal_at, part, Concerned, is_no_part}
use Rattle.cbdc_model.specs.Records.{Digest, Shape, Batch, Compact, Outcome, Entry, Record, Row, journal, record_of, kind_of, is_of, txs_in, Genesis}
use Rattle.cbdc_model.specs.Records.{Start, Done, lock_of, txs_of, outcomes_of, Carry, CarryStart}
use Rattle.cbdc_model.specs.Replies.{entries}
use Rattle.cbdc_model.specs.Slots.{slot, Idle, InFinish}
use Rattle.cbdc_model.specs.Status.{status, held_inputs, Locked}
use Rattle.ledger_laws.proofs.Next.{Next, has_lock, has_finish, has_prepare, Steady}
use Rattle.ledger_laws.proofs.Counts.{count}
use Rattle.ledger_laws.proofs.Parts.{IsPart, is_part, won_by, won_by-won_txs, count-made}
use Rattle.ledger_laws.proofs.View.{Inv}
use Rattle.ledger_laws.proofs.More.{has_done}
use Rattle.ledger_laws.proofs.Dones.{DoneOk, PhaseOk, next_done, next_phase}
use Rattle.ledger_laws.proofs.Rows.{view, at, away, at_node, head_at, head_away}
use Rattle.ledger_laws.proofs.Lookups.{true_false, not_true, no_lock, none_found, shard_of-lt}
use Rattle.ledger_laws.proofs.First.{AllFirst, journal_first, all_first}
use Rattle.ledger_laws.proofs.Moves.{not_empty, kept_lookup, all_structure, all_more, none_of, idle, split_test, test_step}

first_done : (K : Shape) (n : ℕ) (J : List Record) → AllFirst J → DoneOk K n J
first_done K n J first = record {
  pure = λ b h. none_of 6 J first b;
  past_done = λ b h l. absurd (true_false _ h (none_of 6 J first b));
  idle_done = λ b h p. absurd (true_false _ h (none_of 6 J first b));
  finish_here = λ b p e. absurd (let q : Idle ≡ InFinish = sym (idle J first b.lane) ∙ p in cc);
  forgot = λ b h. absurd (true_false _ h (none_of 4 J first b));
}

first_phase : (J : List Record) → AllFirst J → PhaseOk J
first_phase J first = record {
  commit_here = λ b p e. absurd (let q : Idle ≡ _ = sym (idle J first b.lane) ∙ p in cc);
  discard_here = λ b p e. absurd (let q : Idle ≡ _ = sym (idle J first b.lane) ∙ p in cc);
  done_prepared = λ b h. absurd (true_false _ h (none_of 9 J first b));
}

no_part : (es : List Entry) → is_no_part es ≡ true → es ≡ []
no_part [] h = refl
no_part (e ∷ es) h = cc

-- a shard of a made hash has a part
pub part_of_made : (K : Shape) (x : Digest) (txs : List Compact) (os : List Outcome) → 0 < count x (all_outputs (won_txs txs os))
    → is_no_part (part K (shard_of K x) 0 txs) ≡ false
part_of_made K x txs os n = not_true _ (λ t.
    let p : IsPart x 0 txs [] = is_part K x 0 txs [] (sym (no_part (part K (shard_of K x) 0 txs) t)) in
    let made : 0 ≡ count x (all_outputs (won_by (won_at os) 0 txs)) = count-made x (won_at os) p in
    let is : won_by (won_at os) 0 txs ≡ won_txs txs os = won_by-won_txs (won_at os) 0 txs os (λ i. ap (won_at os) (omega arith)) in
    let z : count x (all_outputs (won_by (won_at os) 0 txs)) ≡ count x (all_outputs (won_txs txs os)) = ap (λ ts. count x (all_outputs ts)) is in
    omega arith)

-- a batch whose Lock holds a hash is locked, and one that committed something has its Prepare
pub held_locked : (J : List Record) (x : Digest) (b : Batch) → 0 < count x (held_inputs (lock_of J b)) → has_lock J b ≡ true
held_locked J x b n = elim (has_lock J b) as (λ c. has_lock J b ≡ c → c ≡ true) [
  | true ↦ λ _. refl
  | false ↦ λ f. absurd (let z : count x (held_inputs (lock_of J b)) ≡ 0 = ap (λ a. count x (held_inputs a)) (no_lock J b f) in omega arith)
] refl

pub won_prepared : (J : List Record) (x : Digest) (b : Batch) (os : List Outcome) → 0 < count x (all_outputs (won_txs (txs_of J b) os))
    → has_prepare J b ≡ true
won_prepared J x b os n = elim (has_prepare J b) as (λ c. has_prepare J b ≡ c → c ≡ true) [
  | true ↦ λ _. refl
  | false ↦ λ e. absurd (let z : count x (all_outputs (won_txs (txs_of J b) os)) ≡ 0 =
      ap (λ r. count x (all_outputs (won_txs (txs_in r) os))) (none_found (record_of 6 J b) e) in omega arith)
] refl

module _ (K : Shape) (minting : Minted) (P : Compact → Type 0) (shards : 0 < K.shards) where
  abbrev whole : List Row → List Row
  whole later = later ++ first_rows K minting

  pub all_dones : (later : List Row) → Steady K minting P later → (n : ℕ) → DoneOk K n (journal n (whole later))
  all_dones [] kept n = first_done K n (journal n (first_rows K minting)) (journal_first n (first_rows K minting) (all_first K minting P shards))
  all_dones (row ∷ later) kept n = elim (at_node row.node n) [
    | away e ↦ subst (λ J. DoneOk K n J) (sym (head_away row (whole later) n e)) (all_dones later kept.3 n)
    | at e ↦ subst (λ J. DoneOk K n J) (sym (head_at row (whole later) n e))
        (subst (λ k. DoneOk K k (row.what ∷ journal k (whole later))) e
        (next_done K row.node (journal row.node (whole later)) ((all_structure K minting P shards later kept.3).journals row.node)
        (all_more K minting P shards later kept.3 row.node) (all_dones later kept.3 row.node) row.what kept.0))
  ]

  pub all_phases : (later : List Row) → Steady K minting P later → (n : ℕ) → PhaseOk (journal n (whole later))
  all_phases [] kept n = first_phase (journal n (first_rows K minting)) (journal_first n (first_rows K minting) (all_first K minting P shards))
  all_phases (row ∷ later) kept n = elim (at_node row.node n) [
    | away e ↦ subst (λ J. PhaseOk J) (sym (head_away row (whole later) n e)) (all_phases later kept.3 n)
    | at e ↦ subst (λ J. PhaseOk J) (sym (head_at row (whole later) n e))
        (subst (λ k. PhaseOk (row.what ∷ journal k (whole later))) e
        (next_phase K row.node (journal row.node (whole later)) ((all_structure K minting P shards later kept.3).journals row.node)
        (all_phases later kept.3 row.node) row.what kept.0))
  ]

  -- a Done was caused by Forgets
  done_caused : (past : List Row) (node : ℕ) (r : Record) (b : Batch) → PhaseOk (journal node past) → Next K node (journal node past) r
      → IsCaused K (λ n. journal n past) node r
      → ((kind_of r == 9) && is_of b r) ≡ true → AllHave K (λ n. journal n past) 4 b × (has_prepare (journal node past) b ≡ true)
  done_caused past node (Done stamp c) b phases next caused t =
      subst (λ d. AllHave K (λ n. journal n past) 4 d × (has_prepare (journal node past) d ≡ true)) (split_test 9 9 c b t).1
      (caused.0, (phases.discard_here c next.3 next.4).0)
  done_caused past node (Genesis header hs) b phases next caused t = absurd next
  done_caused past node (Carry stamp header source hs numbers) b phases next caused t = absurd next
  done_caused past node (Start header) b phases next caused t = absurd next
  done_caused past node (CarryStart stamp header source numbers) b phases next caused t = absurd next
  done_caused past node other b phases next caused t = absurd (let z : false ≡ true = t in cc)

  -- what all concerned shards have they keep
  all_have_kept : (later : List Row) → Steady K minting P later → (row : Row) → Next K row.node (journal row.node (whole later)) row.what
      → IsCaused K (λ n. journal n (whole later)) row.node row.what → (kind : ℕ) (b : Batch)
      → has_prepare (journal (b.lane / K.lanes) (whole later)) b ≡ true
      → AllHave K (λ n. journal n (whole later)) kind b → AllHave K (λ n. journal n (row ∷ whole later)) kind b
  all_have_kept later kept row next caused kind b prepared have s c =
      let keep : (kind node : ℕ) (c : Batch) → is_some (record_of kind (journal node (whole later)) c) ≡ true
      → record_of kind (journal node (whole later)) c ≡ record_of kind (journal node (row ∷ whole later)) c
      = λ kind node c f. kept_lookup K P (whole later) (all_structure K minting P shards later kept) (all_more K minting P shards later kept) row
      next caused kind node c f in
      let txs : txs_of (journal (b.lane / K.lanes) (whole later)) b ≡ txs_of (journal (b.lane / K.lanes) (row ∷ whole later)) b =
      ap txs_in (keep 6 (b.lane / K.lanes) b prepared) in
      let found : is_some (at_shards K (λ n. journal n (whole later)) kind b s) ≡ true = have s (subst (λ ts. Concerned K ts s) (sym txs) c) in
      subst (λ r. is_some r ≡ true) (keep kind (shard_node K s) b found) found

  pub done_forgot : (later : List Row) → Steady K minting P later → (b : Batch) → has_done (journal (b.lane / K.lanes) (whole later)) b ≡ true
      → AllHave K (λ n. journal n (whole later)) 4 b
  done_forgot [] kept b h = absurd (true_false _ h
      (none_of 9 (journal (b.lane / K.lanes) (first_rows K minting))
      (journal_first (b.lane / K.lanes) (first_rows K minting) (all_first K minting P shards)) b))
  done_forgot (row ∷ later) kept b h =
      let lane = b.lane / K.lanes in
      let old : has_done (journal (b.lane / K.lanes) (whole later)) b ≡ true → AllHave K (λ n. journal n (row ∷ whole later)) 4 b
      = λ g. all_have_kept later kept.3 row kept.0 kept.1 4 b ((all_phases later kept.3 (b.lane / K.lanes)).done_prepared b g).0
      (done_forgot later kept.3 b g) in
      elim (at_node row.node (b.lane / K.lanes)) [
        | away e ↦ old (subst (λ J. has_done J b ≡ true) (head_away row (whole later) (b.lane / K.lanes) e) h)
        | at e ↦
            let h' : has_done (row.what ∷ journal (b.lane / K.lanes) (whole later)) b ≡ true =
            subst (λ J. has_done J b ≡ true) (head_at row (whole later) (b.lane / K.lanes) e) h in
            elim ((kind_of row.what == 9) && is_of b row.what) as
            (λ t. ((kind_of row.what == 9) && is_of b row.what) ≡ t → AllHave K (λ n. journal n (row ∷ whole later)) 4 b) [
              | true ↦ λ t.
                  let c : AllHave K (λ n. journal n (whole later)) 4 b × (has_prepare (journal row.node (whole later)) b ≡ true)
                  = done_caused (whole later) row.node row.what b (all_phases later kept.3 row.node) kept.0 kept.1 t in
                  all_have_kept later kept.3 row kept.0 kept.1 4 b (subst (λ n. has_prepare (journal n (whole later)) b ≡ true) e c.1) c.0
              | false ↦ λ t. old (sym (ap is_some (test_step 9 row.what (journal (b.lane / K.lanes) (whole later)) b t)) ∙ h')
            ] refl
      ]

  -- every lane is idle at its coordinator
  abbrev pub AllIdle : List Row → Type 0
  AllIdle past = (lane : ℕ) → lane / K.lanes < K.coordinators → (slot (journal (lane / K.lanes) past) lane).phase ≡ Idle

  module _ (later : List Row) (kept : Steady K minting P later) (idle_lanes : AllIdle (later ++ first_rows K minting)) where
    pub done_if_prepared : (b : Batch) → has_prepare (journal (b.lane / K.lanes) (whole later)) b ≡ true
        → has_done (journal (b.lane / K.lanes) (whole later)) b ≡ true
    done_if_prepared b h =
        let d : DoneOk K (b.lane / K.lanes) (journal (b.lane / K.lanes) (whole later)) = all_dones later kept (b.lane / K.lanes) in
        d.idle_done b h (idle_lanes b.lane (below (b.lane / K.lanes) K.coordinators (λ le. true_false _ h (d.pure b le))))
      where
        below : (n m : ℕ) → (m ≤ n → ⊥) → n < m
        below n m f = let cases : (m ≤ n) ⊎ (n < m) = grind arith in elim cases [ inl le ↦ absurd (f le) | inr lt ↦ lt ]

    finished_at : (b : Batch) → has_prepare (journal (b.lane / K.lanes) (whole later)) b ≡ true → (s : ℕ)
        → Concerned K (txs_of (journal (b.lane / K.lanes) (whole later)) b) s → has_finish (journal (shard_node K s) (whole later)) b ≡ true
    finished_at b h s c = (all_dones later kept (shard_node K s)).forgot b (done_forgot later kept b (done_if_prepared b h) s c)

    locked_is_finished : (x : Digest) (b : Batch) → has_lock (journal_at K (whole later) x) b ≡ true
        → has_finish (journal_at K (whole later) x) b ≡ true
    locked_is_finished x b h =
        finished_at b ((all_structure K minting P shards later kept).lock_prepared (shard_node K (shard_of K x)) b h) (shard_of K x)
        (shard_of-lt K x shards, concerned_lock' (shard_of K x) b h)
      where
        concerned_lock' : (s : ℕ) (b : Batch) → has_lock (journal (shard_node K s) (whole later)) b ≡ true
            → is_no_part (part K s 0 (txs_of (journal (b.lane / K.lanes) (whole later)) b)) ≡ false
        concerned_lock' s b h = not_empty_part s b ((all_structure K minting P shards later kept).lock_part s b h)
            ((all_more K minting P shards later kept (shard_node K s)).lock_some b h)
          where
            not_empty_part : (s : ℕ) (b : Batch) → entries (lock_of (journal (shard_node K s) (whole later)) b)
                ≡ part K s 0 (txs_of (journal (b.lane / K.lanes) (whole later)) b)
                → 0 < length (lock_of (journal (shard_node K s) (whole later)) b)
                → is_no_part (part K s 0 (txs_of (journal (b.lane / K.lanes) (whole later)) b)) ≡ false
            not_empty_part s b e n = not_empty (lock_of (journal (shard_node K s) (whole later)) b) _ e n

    pub none_locked : (x : Digest) (b : Batch) → Inv (λ x. count x minting.hashes) P (view K (whole later))
        → status (journal_at K (whole later) x) x ≡ Locked b → ⊥
    none_locked x b inv e = true_false _ (locked_is_finished x b (held_locked (journal_at K (whole later) x) x b (inv.locked x b e).3))
        (inv.locked x b e).1

    pub none_coming : (x : Digest) (b : Batch) → 0 < count x (all_outputs (won_of K (whole later) b))
        → has_finish (journal_at K (whole later) x) b ≡ false → ⊥
    none_coming x b n f = true_false _ (finished_at b prepared (shard_of K x) (shard_of-lt K x shards, some_part)) f
      where
        prepared : has_prepare (journal (b.lane / K.lanes) (whole later)) b ≡ true
        prepared = won_prepared (journal (b.lane / K.lanes) (whole later)) x b (outcomes_of (journal (b.lane / K.lanes) (whole later)) b) n

        some_part : is_no_part (part K (shard_of K x) 0 (txs_of (journal (b.lane / K.lanes) (whole later)) b)) ≡ false
        some_part = part_of_made K x (txs_of (journal (b.lane / K.lanes) (whole later)) b) (outcomes_of (journal (b.lane / K.lanes) (whole later)) b)
            n
