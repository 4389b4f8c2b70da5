-- In checked journals no shard refuses a call of a lane's open batch.
use Rattle.std.proofs.Common.{◌≡◌, ℕ, ◌<◌, Bool, true, false, ◌&&◌, not, nat_lt, List, ◌++◌, Some, is_some, sym, ap, ◌∙◌, subst, arith}
use Rattle.cbdc_types.specs.declared.calls.Refused.{Refused}
use Rattle.cbdc_types.specs.declared.calls.NodeFault.TheVariants.{Refused as Refuses}
use Rattle.cbdc_model.specs.Records.{Shape, Batch, Compact, Outcome, Record, Row, journal, record_of, txs_of, txs_in, outcomes_in, outcomes_of}
use Rattle.cbdc_model.specs.Records.{Finish, Forget, Prepare, Commit, Discard}
use Rattle.cbdc_model.specs.Slots.{slot, Idle, InPrepare, InCommit}
use Rattle.cbdc_model.specs.Outcomes.{decisions}
use Rattle.cbdc_model.specs.Ranges.{home_of, shard_node, part, is_no_part, Concerned}
use Rattle.cbdc_model.specs.Next.{Refuse, next_stamp, next_lock, next_finish, next_forget}
use Rattle.cbdc_model.specs.History.{Minted, first_rows}
use Rattle.cbdc_model.specs.Sights.{Sight}
use Rattle.lane_laws.specs.Calls.{is_concerned}
use Rattle.lane_laws.specs.Granting.{MayLock, MayFinish}
use Rattle.lane_laws.proofs.Grants.{lock_grants, finish_grants, forget_grants, late_refuses, stamp_refuses, lock_refuses}
use Rattle.lane_laws.specs.Faults.{IsCallFault, to_lock, to_decide, to_finish, to_discard, to_forget, to_done}
use Rattle.ledger_laws.proofs.Next.{Steady}
use Rattle.ledger_laws.proofs.Moves.{all_structure, all_more}
use Rattle.run_laws.specs.Faults.{GrantLaw}
use Rattle.run_laws.specs.Runs.{seen_by}
use Rattle.run_laws.proofs.Checked.{Any, rows_of}
use Rattle.run_laws.proofs.Seen.{seen_log, seen_shard}
use Rattle.run_laws.proofs.OpenLanes.{may_lock, may_finish, may_forget}

-- ---- in checked journals

pub concerned : (K : Shape) (txs : List Compact) (s : ℕ) → is_concerned K txs s ≡ true → Concerned K txs s
concerned K txs s c = numbers s K.shards (is_no_part (part K s 0 txs)) c
  where
    numbers : (s n : ℕ) (a : Bool) → (nat_lt s n && not a) ≡ true → (s < n) × (a ≡ false)
    numbers s n a h = (grind (arith, h), grind (arith, h))

-- a coordinator's journal and those of the shards grant the calls of an open batch
pub record Grants (K : Shape) (b : Batch) (txs : List Compact) (H : List Record) (S : ℕ → List Record) : Type 0 where
  pub lock : (s t : ℕ) (why : Refused) → is_concerned K txs s ≡ true → (slot H b.lane).phase ≡ InPrepare → record_of 6 H b ≡ Some (Prepare t b txs)
      → next_lock (S s) b (part K s 0 txs) t ≡ Refuse why → ⊥
  pub finish : (s t : ℕ) (os : List Outcome) (why : Refused) → is_concerned K txs s ≡ true → (slot H b.lane).phase ≡ InCommit
      → record_of 7 H b ≡ Some (Commit t b os)
      → next_finish (S s) b (decisions os (part K s 0 txs)) t ≡ Refuse why → ⊥
  pub forget : (s t : ℕ) (why : Refused) → is_concerned K txs s ≡ true → record_of 8 H b ≡ Some (Discard t b) → next_forget (S s) b t ≡ Refuse why → ⊥

module _ (K : Shape) (minting : Minted) (P : Compact → Type 0) (some : 0 < K.shards) (later : List Row) (kept : Steady K minting P later) (b : Batch)
    (txs : List Compact)
    (home : home_of K b.lane < K.coordinators) where
  abbrev J : ℕ → List Record
  J n = journal n (later ++ first_rows K minting)

  abbrev H : List Record
  H = J (home_of K b.lane)

  module _ (stamp : ℕ) (prepare : record_of 6 H b ≡ Some (Prepare stamp b txs)) (number : (slot H b.lane).number ≡ b.number) where
    txs_are : txs_of H b ≡ txs
    txs_are = ap txs_in prepare

    of_txs : (s : ℕ) → is_concerned K txs s ≡ true → is_concerned K (txs_of H b) s ≡ true
    of_txs s c = subst (λ ts. is_concerned K ts s ≡ true) (sym txs_are) c

    preparing : (slot H b.lane).phase ≡ InPrepare → (slot H b.lane).phase ≡ Idle → ⊥
    preparing p i = let z : InPrepare ≡ Idle = sym p ∙ i in cc

    committing : (slot H b.lane).phase ≡ InCommit → (slot H b.lane).phase ≡ Idle → ⊥
    committing p i = let z : InCommit ≡ Idle = sym p ∙ i in cc

    pub grants : Grants K b txs H (λ s. J (shard_node K s))
    grants = record {
      lock = λ s t why c phase stands e.
          lock_grants (J (shard_node K s)) b (part K s 0 txs) t
          (subst (λ ts. MayLock (J (shard_node K s)) b (part K s 0 ts) t) txs_are
          (may_lock K minting P some later kept b home number (preparing phase) (ap is_some prepare) s (of_txs s c) t
          (subst (λ ts. record_of 6 H b ≡ Some (Prepare t b ts)) (sym txs_are) stands)
          (((all_structure K minting P some later kept).journals (home_of K b.lane)).prepared b phase number).1
          ((all_more K minting P some later kept (home_of K b.lane)).in_prepare b phase number).0)) why e;
      finish = λ s t os why c phase stands e.
          let named : os ≡ outcomes_of H b = sym (ap outcomes_in stands) in
          finish_grants (J (shard_node K s)) b (decisions os (part K s 0 txs)) t
          (subst (λ q. MayFinish (J (shard_node K s)) b (decisions q (part K s 0 txs)) t) (sym named)
          (subst (λ ts. MayFinish (J (shard_node K s)) b (decisions (outcomes_of H b) (part K s 0 ts)) t) txs_are
          (may_finish K minting P some later kept b home number (committing phase) (ap is_some prepare) s (of_txs s c) t
          (subst (λ q. record_of 7 H b ≡ Some (Commit t b q)) named stands)
          ((all_more K minting P some later kept (home_of K b.lane)).in_commit b phase number).0))) why e;
      forget = λ s t why c stands e.
          forget_grants (J (shard_node K s)) b t (may_forget K minting P some later kept b home number s (of_txs s c) t stands) why e;
    }

refused : (K : Shape) (b : Batch) (txs : List Compact) (log : Sight) (shards : ℕ → Sight) (node : ℕ) (why : Refused)
    → Grants K b txs log.seen (λ s. (shards s).seen)
    → IsCallFault K b txs log shards node (Refuses why) → ⊥
refused K b txs log shards node why g (to_lock s t is c phase stands have e) =
    g.lock s t why c phase stands (lock_refuses (shards s).header.shape (shards s).capacity (shards s).seen
    (record { batch = b; part = part K s 0 txs; cause = t }) (next_lock (shards s).seen b (part K s 0 txs) t) why e)
refused K b txs log shards node why g (to_decide replies is phase have cause e) = late_refuses _ _ _ why e
refused K b txs log shards node why g (to_finish s t os is c phase stands have e) =
    g.finish s t os why c phase stands (stamp_refuses (next_finish (shards s).seen b (decisions os (part K s 0 txs)) t)
    (Finish (next_stamp (shards s).seen t) b (decisions os (part K s 0 txs))) why e)
refused K b txs log shards node why g (to_discard cause is phase have latest e) = late_refuses _ _ _ why e
refused K b txs log shards node why g (to_forget s t is c phase stands have e) =
    g.forget s t why c stands (stamp_refuses (next_forget (shards s).seen b t) (Forget (next_stamp (shards s).seen t) b) why e)
refused K b txs log shards node why g (to_done cause is phase have latest e) = late_refuses _ _ _ why e

pub grant_law : GrantLaw
grant_law K m logs shards b txs node why some home checked fault =
    refused K b txs (logs (home_of K b.lane)) shards node why
    (subst (λ T. Grants K b txs (logs (home_of K b.lane)).seen T) at_shards
    (subst (λ L. Grants K b txs L shards_of) at_home
    (grants K m Any some checked.later (rows_of K m (seen_by K logs shards) checked) b txs home fault.stamp
    (subst (λ L. record_of 6 L b ≡ Some (Prepare fault.stamp b txs)) (sym at_home) fault.prepare)
    (subst (λ L. (slot L b.lane).number ≡ b.number) (sym at_home) fault.number))))
    fault.call
  where
    at_home : journal (home_of K b.lane) (checked.later ++ first_rows K m) ≡ (logs (home_of K b.lane)).seen
    at_home = checked.history.journals_are (home_of K b.lane) ∙ seen_log K logs shards (home_of K b.lane) home

    shards_of : ℕ → List Record
    shards_of s = journal (shard_node K s) (checked.later ++ first_rows K m)

    shards_are : ℕ → List Record
    shards_are s = (shards s).seen

    at_shards : shards_of ≡ shards_are
    at_shards = λ i s. (checked.history.journals_are (shard_node K s) ∙ seen_shard K logs shards s) i
