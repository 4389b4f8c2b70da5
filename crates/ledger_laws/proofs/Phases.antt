-- The phases of a batch stand in order, by what each record that stands says of its causes.
use Rattle.std.proofs.Common.{◌≡◌, ℕ, ◌<◌, ◌≤◌, ◌/◌, true, List, ◌++◌, is_some, sym, ap, subst, arith}
use Rattle.cbdc_model.specs.Records.{Shape, Batch, Compact, Record, Row, journal, record_of, stamp_in, Lock, Finish, Forget, Commit, Discard, Done}
use Rattle.cbdc_model.specs.Ranges.{shard_node}
use Rattle.cbdc_model.specs.Slots.{slot}
use Rattle.cbdc_model.specs.Causes.{AllHave}
use Rattle.cbdc_model.specs.Clean.{IsProperCompact}
use Rattle.cbdc_model.specs.History.{Minted, minted, first_rows}
use Rattle.ledger_laws.specs.Phases.{IsInPhaseOrder, IsAfterEarlier}
use Rattle.ledger_laws.specs.Laws.{PhaseLaw}
use Rattle.ledger_laws.proofs.Next.{Steady}
use Rattle.ledger_laws.proofs.Moves.{all_structure}
use Rattle.ledger_laws.proofs.ByKind.{found_lock, found_finish, found_forget, found_commit, found_discard, found_done}
use Rattle.ledger_laws.proofs.Standing.{AllOlder, standing}
use Rattle.ledger_laws.proofs.Recovered.{all_dones}
use Rattle.ledger_laws.proofs.Repeats.{all_order}
use Rattle.ledger_laws.proofs.Ledger.{steady}

module _ (K : Shape) (minting : Minted) (P : Compact → Type 0) (shards : 0 < K.shards) (later : List Row) (kept : Steady K minting P later) where
  abbrev J : ℕ → List Record
  J n = journal n (later ++ first_rows K minting)

  -- what each record that stands says of its causes
  lock_says : (n : ℕ) (b : Batch) → is_some (record_of 2 (J n) b) ≡ true
      → (is_some (record_of 6 (J (b.lane / K.lanes)) b) ≡ true) × (stamp_in (record_of 6 (J (b.lane / K.lanes)) b) < stamp_in (record_of 2 (J n) b))
  lock_says n b h =
      let f = found_lock (J n) b h in
      let g = standing K minting P shards later kept n 2 b (Lock f.0 b f.1) f.2 in
      (g.0, subst (λ o. stamp_in (record_of 6 (J (b.lane / K.lanes)) b) < stamp_in o) (sym f.2) g.2)

  finish_says : (n : ℕ) (b : Batch) → is_some (record_of 3 (J n) b) ≡ true
      → (is_some (record_of 2 (J n) b) ≡ true) × (is_some (record_of 7 (J (b.lane / K.lanes)) b) ≡ true)
      × (stamp_in (record_of 7 (J (b.lane / K.lanes)) b) < stamp_in (record_of 3 (J n) b))
  finish_says n b h =
      let f = found_finish (J n) b h in
      let g = standing K minting P shards later kept n 3 b (Finish f.0 b f.1) f.2 in
      (g.1, g.0, subst (λ o. stamp_in (record_of 7 (J (b.lane / K.lanes)) b) < stamp_in o) (sym f.2) g.3)

  forget_says : (n : ℕ) (b : Batch) → is_some (record_of 4 (J n) b) ≡ true
      → (is_some (record_of 8 (J (b.lane / K.lanes)) b) ≡ true) × (stamp_in (record_of 8 (J (b.lane / K.lanes)) b) < stamp_in (record_of 4 (J n) b))
  forget_says n b h =
      let f = found_forget (J n) b h in
      let g = standing K minting P shards later kept n 4 b (Forget f.0 b) f.1 in
      (g.0, subst (λ o. stamp_in (record_of 8 (J (b.lane / K.lanes)) b) < stamp_in o) (sym f.1) g.1)

  commit_says : (b : Batch) → is_some (record_of 7 (J (b.lane / K.lanes)) b) ≡ true
      → (is_some (record_of 6 (J (b.lane / K.lanes)) b) ≡ true) × AllHave K J 2 b × AllOlder K J 2 b (stamp_in (record_of 7 (J (b.lane / K.lanes)) b))
  commit_says b h =
      let f = found_commit (J (b.lane / K.lanes)) b h in
      let g = standing K minting P shards later kept (b.lane / K.lanes) 7 b (Commit f.0 b f.1) f.2 in
      (g.0, g.1, subst (λ o. AllOlder K J 2 b (stamp_in o)) (sym f.2) g.3)

  discard_says : (b : Batch) → is_some (record_of 8 (J (b.lane / K.lanes)) b) ≡ true
      → (is_some (record_of 6 (J (b.lane / K.lanes)) b) ≡ true) × AllHave K J 3 b × AllOlder K J 3 b (stamp_in (record_of 8 (J (b.lane / K.lanes)) b))
  discard_says b h =
      let f = found_discard (J (b.lane / K.lanes)) b h in
      let g = standing K minting P shards later kept (b.lane / K.lanes) 8 b (Discard f.0 b) f.1 in
      (g.0, g.1, subst (λ o. AllOlder K J 3 b (stamp_in o)) (sym f.1) g.2)

  done_says : (b : Batch) → is_some (record_of 9 (J (b.lane / K.lanes)) b) ≡ true
      → (is_some (record_of 6 (J (b.lane / K.lanes)) b) ≡ true) × AllHave K J 4 b × AllOlder K J 4 b (stamp_in (record_of 9 (J (b.lane / K.lanes)) b))
  done_says b h =
      let f = found_done (J (b.lane / K.lanes)) b h in
      let g = standing K minting P shards later kept (b.lane / K.lanes) 9 b (Done f.0 b) f.1 in
      (g.0, g.1, subst (λ o. AllOlder K J 4 b (stamp_in o)) (sym f.1) g.2)

  pub in_order : (b : Batch) → IsInPhaseOrder K J b
  in_order b = record {
    lock = λ s h. lock_says (shard_node K s) b h;
    commit = λ h. let f = commit_says b h in (f.0, λ s c. (f.1 s c, f.2 s c.0));
    finish = λ s h. finish_says (shard_node K s) b h;
    discard = λ h. let f = discard_says b h in (f.0, λ s c. (f.1 s c, f.2 s c.0));
    forget = λ s h. forget_says (shard_node K s) b h;
    done = λ h. let f = done_says b h in (f.0, λ s c. (f.1 s c, f.2 s c.0));
  }

  pub older_locks : (b : Batch) → is_some (record_of 7 (J (b.lane / K.lanes)) b) ≡ true
      → AllOlder K J 2 b (stamp_in (record_of 7 (J (b.lane / K.lanes)) b))
  older_locks b h = (commit_says b h).2

  pub older_finishes : (b : Batch) → is_some (record_of 8 (J (b.lane / K.lanes)) b) ≡ true
      → AllOlder K J 3 b (stamp_in (record_of 8 (J (b.lane / K.lanes)) b))
  older_finishes b h = (discard_says b h).2

  pub older_forgets : (b : Batch) → is_some (record_of 9 (J (b.lane / K.lanes)) b) ≡ true
      → AllOlder K J 4 b (stamp_in (record_of 9 (J (b.lane / K.lanes)) b))
  older_forgets b h = (done_says b h).2

  pub after_earlier : (c b : Batch) → IsAfterEarlier K J c b
  after_earlier c b lanes lt p q =
      let same : c.lane / K.lanes ≡ b.lane / K.lanes = ap (λ l. l / K.lanes) lanes in
      let below : b.number ≤ (slot (J (b.lane / K.lanes)) b.lane).number =
      ((all_structure K minting P shards later kept).journals (b.lane / K.lanes)).prepare_below b q in
      let high : c.number < (slot (J (c.lane / K.lanes)) c.lane).number =
      subst (λ l. c.number < (slot (J (l / K.lanes)) l).number) (sym lanes) (omega (arith, below)) in
      let done : is_some (record_of 9 (J (c.lane / K.lanes)) c) ≡ true =
      (all_dones K minting P shards later kept (c.lane / K.lanes)).past_done c p high in
      let first : stamp_in (record_of 9 (J (c.lane / K.lanes)) c) < stamp_in (record_of 6 (J (c.lane / K.lanes)) b)
      = (all_order K minting P shards later kept (c.lane / K.lanes)).done_first c b lanes lt done
      (subst (λ m. is_some (record_of 6 (J m) b) ≡ true) (sym same) q) in
      (done, subst (λ m. stamp_in (record_of 9 (J (c.lane / K.lanes)) c) < stamp_in (record_of 6 (J m) b)) same first)

pub phase_law : PhaseLaw
phase_law K mint txs later shards kept =
    let k = steady K (minted mint) (IsProperCompact txs) later kept in
    (in_order K (minted mint) (IsProperCompact txs) shards later k, after_earlier K (minted mint) (IsProperCompact txs) shards later k)
