-- A recovered kept history is alike on all its shards.
use Rattle.std.proofs.Common.{◌≡◌, inl, inr, ℕ, ◌+◌, ◌<◌, ◌≤◌, ◌/◌, true, false, cond, ◌&&◌, ◌==◌, if◌then◌else◌, List, [], ◌∷◌, ◌++◌, Some, is_some}
use Rattle.std.proofs.Common.{refl, sym, ap, ◌∙◌, subst, arith}
use Rattle.cbdc_model.specs.History.{first_rows, Minted}
use Rattle.cbdc_model.specs.Outcomes.{decisions}
use Rattle.cbdc_model.specs.Ranges.{shard_node, part, Concerned, is_no_part}
use Rattle.cbdc_model.specs.Records.{Shape, Batch, Compact, Record, Row, journal, record_of, kind_of, is_of, decisions_in, Finish, lock_of, txs_of}
use Rattle.cbdc_model.specs.Records.{outcomes_of}
use Rattle.cbdc_model.specs.Replies.{entries}
use Rattle.cbdc_model.specs.World.{count_of, IsAlike, Alike}
use Rattle.ledger_laws.proofs.Ledger.{SteadyJournals}
pub use Rattle.ledger_laws.proofs.ByKind.{found_passes}
use Rattle.ledger_laws.proofs.ByKind.{found_finish}
use Rattle.ledger_laws.proofs.Next.{Next, has_lock, has_finish, has_prepare, has_forget, Steady}
use Rattle.ledger_laws.proofs.Slots.{JournalOk}
use Rattle.ledger_laws.proofs.More.{MoreOk}
use Rattle.ledger_laws.proofs.Rows.{at, away, at_node, head_at, head_away}
use Rattle.ledger_laws.proofs.Lookups.{true_false, not_true}
use Rattle.ledger_laws.proofs.First.{journal_first, all_first}
use Rattle.ledger_laws.proofs.Moves.{once, not_empty, all_structure, all_more, none_of}
use Rattle.ledger_laws.proofs.Recovered.{AllIdle, done_if_prepared, done_forgot, all_dones, all_phases}
use Rattle.ledger_laws.proofs.Standing.{standing}

-- a record is found where one is counted
count_none : (kind : ℕ) (J : List Record) (b : Batch) → is_some (record_of kind J b) ≡ false → count_of kind J b ≡ 0
count_none kind [] b h = refl
count_none kind (r ∷ J) b h = step kind r J b h (λ g. count_none kind J b g)
  where
    step : (kind : ℕ) (r : Record) (J : List Record) (b : Batch) → is_some (record_of kind (r ∷ J) b) ≡ false
        → (is_some (record_of kind J b) ≡ false → count_of kind J b ≡ 0)
        → count_of kind (r ∷ J) b ≡ 0
    step kind r J b h rest = elim ((kind_of r == kind) && is_of b r) as
        (λ t. is_some (cond t (Some r) (record_of kind J b)) ≡ false → (if t then 1 else 0) + count_of kind J b ≡ 0) [
          | true ↦ λ g. absurd (let z : true ≡ false = g in cc)
          | false ↦ λ g. omega (arith, rest g)
        ] h

count_some : (kind : ℕ) (J : List Record) (b : Batch) → is_some (record_of kind J b) ≡ true → 0 < count_of kind J b
count_some kind [] b h = absurd (let z : false ≡ true = h in cc)
count_some kind (r ∷ J) b h = step kind r J b h (λ g. count_some kind J b g)
  where
    step : (kind : ℕ) (r : Record) (J : List Record) (b : Batch) → is_some (record_of kind (r ∷ J) b) ≡ true
        → (is_some (record_of kind J b) ≡ true → 0 < count_of kind J b)
        → 0 < count_of kind (r ∷ J) b
    step kind r J b h rest = elim ((kind_of r == kind) && is_of b r) as
        (λ t. is_some (cond t (Some r) (record_of kind J b)) ≡ true → 0 < (if t then 1 else 0) + count_of kind J b) [
          | true ↦ λ g. omega arith
          | false ↦ λ g. omega (arith, rest g)
        ] h

count_next : (K : Shape) (node : ℕ) (J : List Record) (r : Record) → JournalOk J → MoreOk J → Next K node J r → (kind : ℕ) (b : Batch)
    → count_of kind J b ≤ 1 → count_of kind (r ∷ J) b ≤ 1
count_next K node J r ok more next kind b one =
    elim ((kind_of r == kind) && is_of b r) as (λ t. ((kind_of r == kind) && is_of b r) ≡ t → (if t then 1 else 0) + count_of kind J b ≤ 1) [
      | true ↦ λ t. let z : count_of kind J b ≡ 0 = count_none kind J b (not_true _ (λ f. once K node J ok more r next kind b t f)) in omega arith
      | false ↦ λ t. omega (arith, one)
    ] refl

module _ (K : Shape) (minting : Minted) (P : Compact → Type 0) (shards : 0 < K.shards) where
  abbrev whole : List Row → List Row
  whole later = later ++ first_rows K minting

  at_most_one : (later : List Row) → Steady K minting P later → (n kind : ℕ) (b : Batch) → count_of kind (journal n (whole later)) b ≤ 1
  at_most_one [] kept n kind b =
      let z : count_of kind (journal n (first_rows K minting)) b ≡ 0 =
      count_none kind (journal n (first_rows K minting)) b
      (none_of kind (journal n (first_rows K minting)) (journal_first n (first_rows K minting) (all_first K minting P shards)) b) in omega arith
  at_most_one (row ∷ later) kept n kind b = elim (at_node row.node n) [
    | away e ↦ subst (λ J. count_of kind J b ≤ 1) (sym (head_away row (whole later) n e)) (at_most_one later kept.3 n kind b)
    | at e ↦ subst (λ J. count_of kind J b ≤ 1) (sym (head_at row (whole later) n e))
        (subst (λ m. count_of kind (row.what ∷ journal m (whole later)) b ≤ 1) e
        (count_next K row.node (journal row.node (whole later)) row.what ((all_structure K minting P shards later kept.3).journals row.node)
        (all_more K minting P shards later kept.3 row.node) kept.0 kind b
        (at_most_one later kept.3 row.node kind b)))
  ]

  exactly_one : (later : List Row) → Steady K minting P later → (n kind : ℕ) (b : Batch)
      → is_some (record_of kind (journal n (whole later)) b) ≡ true → count_of kind (journal n (whole later)) b ≡ 1
  exactly_one later kept n kind b f = omega (arith, at_most_one later kept n kind b, count_some kind (journal n (whole later)) b f)

  abbrev lane_of : List Row → Batch → List Record
  lane_of later b = journal (b.lane / K.lanes) (whole later)

  -- at a concerned shard, where the batch is done
  module _ (later : List Row) (kept : Steady K minting P later) (idle : AllIdle K minting P shards (later ++ first_rows K minting)) (b : Batch)
      (prepared : has_prepare (lane_of later b) b ≡ true) where
    finished : (s : ℕ) → Concerned K (txs_of (lane_of later b) b) s → has_finish (journal (shard_node K s) (whole later)) b ≡ true
    finished s c = (all_dones K minting P shards later kept (shard_node K s)).forgot b
        (done_forgot K minting P shards later kept b (done_if_prepared K minting P shards later kept idle b prepared) s c)

    pub finish_facts : (s : ℕ) → has_finish (journal (shard_node K s) (whole later)) b ≡ true
        → has_lock (journal (shard_node K s) (whole later)) b ≡ true
        × (decisions_in (record_of 3 (journal (shard_node K s) (whole later)) b)
        ≡ decisions (outcomes_of (lane_of later b) b) (entries (lock_of (journal (shard_node K s) (whole later)) b)))
    finish_facts s h =
        let f = found_finish (journal (shard_node K s) (whole later)) b h in
        let g = standing K minting P shards later kept (shard_node K s) 3 b (Finish f.0 b f.1) f.2 in
        (g.1, ap decisions_in f.2 ∙ g.2)

    none_there : (s : ℕ) → is_no_part (part K s 0 (txs_of (lane_of later b) b)) ≡ true → has_lock (journal (shard_node K s) (whole later)) b ≡ false
    none_there s e = not_true _ (λ h. true_false _ e (concerned s h))
      where
        concerned : (s : ℕ) → has_lock (journal (shard_node K s) (whole later)) b ≡ true
            → is_no_part (part K s 0 (txs_of (lane_of later b) b)) ≡ false
        concerned s h = not_empty (lock_of (journal (shard_node K s) (whole later)) b) _
            ((all_structure K minting P shards later kept).lock_part s b h) ((all_more K minting P shards later kept (shard_node K s)).lock_some b h)

    no_finish_there : (s : ℕ) → is_no_part (part K s 0 (txs_of (lane_of later b) b)) ≡ true
        → has_finish (journal (shard_node K s) (whole later)) b ≡ false
    no_finish_there s e = not_true _ (λ h. true_false _ (finish_facts s h).0 (none_there s e))

    no_forget_there : (s : ℕ) → is_no_part (part K s 0 (txs_of (lane_of later b) b)) ≡ true
        → has_forget (journal (shard_node K s) (whole later)) b ≡ false
    no_forget_there s e = not_true _ (λ h. true_false _ ((all_dones K minting P shards later kept (shard_node K s)).forgot b h) (no_finish_there s e))

    committed_once : count_of 7 (lane_of later b) b ≡ 1
    committed_once = exactly_one later kept (b.lane / K.lanes) 7 b
        ((all_phases K minting P shards later kept (b.lane / K.lanes)).done_prepared b
        (done_if_prepared K minting P shards later kept idle b prepared)).1

  pub alike : (J : ℕ → List Record) → (k : SteadyJournals K minting P J) → AllIdle K minting P shards (k.later ++ first_rows K minting) → Alike K J
  alike J k idle b prepared =
      subst (λ J. IsAlike K J b) (λ i n. k.history n i)
      (batch_alike k.later k.kept idle b (subst (λ J. is_some (record_of 6 J b) ≡ true) (sym (k.history (b.lane / K.lanes))) prepared))
    where
      batch_alike : (later : List Row) (kept : Steady K minting P later) → AllIdle K minting P shards (later ++ first_rows K minting) → (b : Batch)
          → has_prepare (lane_of later b) b ≡ true
          → IsAlike K (λ n. journal n (whole later)) b
      batch_alike later kept idle b p = record {
        one_commit = committed_once later kept idle b p;
        one_lock = λ s c. exactly_one later kept (shard_node K s) 2 b (finish_facts later kept idle b p s (finished later kept idle b p s c)).0;
        one_finish = λ s c. exactly_one later kept (shard_node K s) 3 b (finished later kept idle b p s c);
        same_decisions = λ s c.
            let f : has_lock (journal (shard_node K s) (whole later)) b ≡ true
            × (decisions_in (record_of 3 (journal (shard_node K s) (whole later)) b)
            ≡ decisions (outcomes_of (lane_of later b) b) (entries (lock_of (journal (shard_node K s) (whole later)) b)))
            = finish_facts later kept idle b p s (finished later kept idle b p s c) in
            f.1 ∙ ap (decisions (outcomes_of (lane_of later b) b)) ((all_structure K minting P shards later kept).lock_part s b f.0);
        no_other = λ s kind lt e which. count_none kind (journal (shard_node K s) (whole later)) b (elim which [
          | inl two ↦ subst (λ k. is_some (record_of k (journal (shard_node K s) (whole later)) b) ≡ false) (sym two)
              (none_there later kept idle b p s e)
          | inr more ↦ elim more [
            | inl three ↦ subst (λ k. is_some (record_of k (journal (shard_node K s) (whole later)) b) ≡ false) (sym three)
                (no_finish_there later kept idle b p s e)
            | inr four ↦ subst (λ k. is_some (record_of k (journal (shard_node K s) (whole later)) b) ≡ false) (sym four)
                (no_forget_there later kept idle b p s e)
          ]
        ]);
      }
