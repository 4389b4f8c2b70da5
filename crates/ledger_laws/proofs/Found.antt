-- Every record that stands is in the grammar of its node, and what that says of Locks, holders and batches that were forgotten.
use Rattle.std.proofs.Common.{◌≡◌, ℕ, ◌<◌, ◌≤◌, ◌/◌, true, false, ◌&&◌, ◌==◌, List, [], ◌∷◌, ◌++◌, length, Some, None, is_some, refl, sym, ap, ◌∙◌}
use Rattle.std.proofs.Common.{subst, arith}
use Rattle.std.specs.List.{AllByRecursion}
use Rattle.std.proofs.lemmas.List.Elements.{recursion_from_All}
use Rattle.cbdc_model.specs.Records.{Digest, Shape, Batch, same_batch, Compact, Outcome, Record, Row, journal, record_of, kind_of, is_of, tells_lane}
use Rattle.cbdc_model.specs.Records.{entries_in, lock_of, txs_of, Lock, Forget, Commit, Done, Carry, CarryStart}
use Rattle.cbdc_model.specs.Slots.{slot, Idle}
use Rattle.cbdc_model.specs.Status.{status, Locked}
use Rattle.cbdc_model.specs.Ranges.{shard_node, Concerned}
use Rattle.cbdc_model.specs.Grammar.{IsBatchOf, IsEntry, IsInGrammar}
use Rattle.cbdc_model.specs.History.{Minted, header_of, first_rows}
use Rattle.ledger_laws.proofs.Next.{has_lock, has_finish, has_forget, Steady}
use Rattle.ledger_laws.proofs.Rows.{at, away, at_node, head_at, head_away}
use Rattle.ledger_laws.proofs.Lookups.{true_false}
use Rattle.ledger_laws.proofs.First.{journal_first, all_first}
use Rattle.ledger_laws.proofs.Moves.{none_of}
pub use Rattle.ledger_laws.proofs.ByKind.{found_new}
use Rattle.ledger_laws.proofs.ByKind.{test_step, some_is, found_lock}
use Rattle.ledger_laws.proofs.Recovered.{all_dones, all_phases}
use Rattle.ledger_laws.proofs.Last as last
use Rattle.ledger_laws.proofs.Phases.{in_order}
use Rattle.ledger_laws.proofs.Older.{all_older}
use Rattle.ledger_laws.proofs.Begun.{not_begun}

pub both_same : (c b : Batch) → (c.lane == b.lane) ≡ true → c.number ≡ b.number → same_batch c b ≡ true
both_same c b l n = grind arith

-- every record that stands is in the grammar of its node
pub found_grammar : (K : Shape) (minting : Minted) (P : Compact → Type 0) (shards : 0 < K.shards) (later : List Row) → Steady K minting P later
    → (n kind : ℕ) (b : Batch) (r : Record)
    → record_of kind (journal n (later ++ first_rows K minting)) b ≡ Some r → IsInGrammar (header_of K minting.id n) r
found_grammar K minting P shards [] kept n kind b r e =
    absurd (true_false _ (ap is_some e) (none_of kind (journal n (first_rows K minting))
    (journal_first n (first_rows K minting) (all_first K minting P shards)) b))
found_grammar K minting P shards (row ∷ later) kept n kind b r e =
    elim (at_node row.node n) [
      | away a ↦ found_grammar K minting P shards later kept.3 n kind b r
          (ap (λ J. record_of kind J b) (sym (head_away row (later ++ first_rows K minting) n a)) ∙ e)
      | at a ↦
          let e' : record_of kind (row.what ∷ journal n (later ++ first_rows K minting)) b ≡ Some r
          = ap (λ J. record_of kind J b) (sym (head_at row (later ++ first_rows K minting) n a)) ∙ e in
          elim ((kind_of row.what == kind) && is_of b row.what) as
          (λ t. ((kind_of row.what == kind) && is_of b row.what) ≡ t → IsInGrammar (header_of K minting.id n) r) [
            | true ↦ λ t.
                let is : row.what ≡ r = some_is row.what r (sym (found_new kind row.what (journal n (later ++ first_rows K minting)) b t) ∙ e') in
                subst (λ q. IsInGrammar (header_of K minting.id n) q) is (subst (λ m. IsInGrammar (header_of K minting.id m) row.what) a kept.4)
            | false ↦ λ t. found_grammar K minting P shards later kept.3 n kind b r
                (sym (test_step kind row.what (journal n (later ++ first_rows K minting)) b t) ∙ e')
          ] refl
    ]

module _ (K : Shape) (minting : Minted) (P : Compact → Type 0) (shards : 0 < K.shards) (later : List Row) (kept : Steady K minting P later) where
  abbrev J : ℕ → List Record
  J n = journal n (later ++ first_rows K minting)

  -- what is known of the Lock that stands
  pub record LockFits (n : ℕ) (b : Batch) : Type 0 where
    pub of_shape : IsBatchOf K b
    pub size : (1 ≤ length (lock_of (J n) b)) × (length (lock_of (J n) b) ≤ K.batch)
    pub all : AllByRecursion (IsEntry K n) (lock_of (J n) b)

  pub lock_fits : (n : ℕ) (b : Batch) → has_lock (J n) b ≡ true → LockFits n b
  lock_fits n b h =
      let f = found_lock (J n) b h in
      let g = found_grammar K minting P shards later kept n 2 b (Lock f.0 b f.1) f.2 in
      let is : f.1 ≡ lock_of (J n) b = ap entries_in (sym f.2) in
      record {
        of_shape = g.1;
        size = subst (λ fs. (1 ≤ length fs) × (length fs ≤ K.batch)) is g.3;
        all = subst (λ fs. AllByRecursion (IsEntry K n) fs) is (recursion_from_All (IsEntry K n) f.1 g.5);
      }

  -- where the lane is idle at a shard with this number, the batch is forgotten there
  pub forgot_here : (s : ℕ) (b : Batch) → 1 ≤ b.number → (slot (J (shard_node K s)) b.lane).number ≡ b.number
      → (slot (J (shard_node K s)) b.lane).phase ≡ Idle → has_forget (J (shard_node K s)) b ≡ true
  forgot_here s b some n p = elim (last.last_of (J (shard_node K s)) b.lane) as
      (λ o. last.last_of (J (shard_node K s)) b.lane ≡ o → has_forget (J (shard_node K s)) b ≡ true) [
        | None ↦ λ e. absurd (let z : (slot (J (shard_node K s)) b.lane).number ≡ 0 =
            ap (λ q. q.number) (last.slot_is (J (shard_node K s)) b.lane ∙ ap (last.slot_by b.lane) e) in omega arith)
        | Some r ↦ λ e. of_record r e (last.last_in_lane (J (shard_node K s)) b.lane r e)
            (sym (ap (λ q. q.number) (last.slot_is (J (shard_node K s)) b.lane ∙ ap (last.slot_by b.lane) e)) ∙ n)
            (sym (ap (λ q. q.phase) (last.slot_is (J (shard_node K s)) b.lane ∙ ap (last.slot_by b.lane) e)) ∙ p)
      ] refl
    where
      of_record : (r : Record) → last.last_of (J (shard_node K s)) b.lane ≡ Some r → tells_lane b.lane r ≡ true
          → (last.slot_by b.lane (Some r)).number ≡ b.number
          → (last.slot_by b.lane (Some r)).phase ≡ Idle → has_forget (J (shard_node K s)) b ≡ true
      of_record (Forget stamp c) e l m i = ap is_some (last.last_found (J (shard_node K s)) 4 b (Forget stamp c) e (both_same c b l m))
      of_record (Done stamp c) e l m i =
          absurd (true_false _ ((all_phases K minting P shards later kept (shard_node K s)).done_prepared b
          (ap is_some (last.last_found (J (shard_node K s)) 9 b (Done stamp c) e (both_same c b l m)))).0
          ((all_dones K minting P shards later kept (shard_node K s)).pure b (omega arith)))
      of_record (Carry stamp header source hs numbers) e l m i =
          absurd (not_begun K minting P later kept (shard_node K s) b.lane (Carry stamp header source hs numbers) e tt)
      of_record (CarryStart stamp header source numbers) e l m i =
          absurd (not_begun K minting P later kept (shard_node K s) b.lane (CarryStart stamp header source numbers) e tt)
      of_record other e l m i = cc

  pub finished_here : (s : ℕ) (b : Batch) → has_forget (J (shard_node K s)) b ≡ true → has_finish (J (shard_node K s)) b ≡ true
  finished_here s b h = (all_dones K minting P shards later kept (shard_node K s)).forgot b h

  pub locked_here : (s : ℕ) (b : Batch) → has_finish (J (shard_node K s)) b ≡ true → has_lock (J (shard_node K s)) b ≡ true
  locked_here s b h = ((in_order K minting P shards later kept b).finish s h).0

  pub commit_locked : (b : Batch) (stamp : ℕ) (os : List Outcome) → record_of 7 (J (b.lane / K.lanes)) b ≡ Some (Commit stamp b os) → (s : ℕ)
      → Concerned K (txs_of (J (b.lane / K.lanes)) b) s
      → has_lock (J (shard_node K s)) b ≡ true
  commit_locked b stamp os e s c = (((in_order K minting P shards later kept b).commit (ap is_some e)).1 s c).0

  pub holders : (n : ℕ) (x : Digest) (by : Batch) → status (J n) x ≡ Locked by → IsBatchOf K by
  holders n x by e = (lock_fits n by ((all_older K minting P shards later kept x n).locked by e)).of_shape
