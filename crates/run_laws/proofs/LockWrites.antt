-- A Lock that is still to come may be written, where the stamp that it needs is not above 2^62, whatever stamps stand elsewhere.
use Rattle.std.proofs.Common.{◌≡◌, ℕ, suc, ◌^◌, ◌<◌, ◌≤◌, ◌/◌, max, true, false, ◌&&◌, ◌==◌, List, [], ◌++◌, Some, None, is_some, refl, ap}
use Rattle.cbdc_model.specs.Records.{Digest, Shape, Batch, Compact, Record, Row, journal, record_of, kind_of, is_of, txs_in, txs_of, stamp_of}
use Rattle.cbdc_model.specs.Records.{last_stamp, Prepare}
use Rattle.cbdc_model.specs.Slots.{slot}
use Rattle.cbdc_model.specs.Ranges.{shard_node, part, is_no_part, Concerned}
use Rattle.cbdc_model.specs.Grammar.{IsInGrammar}
use Rattle.cbdc_model.specs.Causes.{IsCaused}
use Rattle.cbdc_model.specs.History.{Minted, header_of, first_rows}
use Rattle.ledger_laws.proofs.Next.{Next, has_lock, Steady}
use Rattle.ledger_laws.proofs.ByKind.{same_batch_self, found_prepare}
use Rattle.ledger_laws.proofs.Resuming.{due_lock, lock_next}
use Rattle.run_laws.specs.LocksDue.{IsLock}

-- a Lock of a batch that may be written at a node, with the stamp behind this one
pub record LockFor (K : Shape) (id : Digest) (J : ℕ → List Record) (n : ℕ) (b : Batch) (before : ℕ) : Type 0 where
  pub r : Record
  pub next : Next K n (J n) r
  pub caused : IsCaused K J n r
  pub grammar : IsInGrammar (header_of K id n) r
  pub of_kind : ((kind_of r == 2) && is_of b r) ≡ true
  pub is_lock : IsLock r
  pub stamp : stamp_of r ≡ suc before

-- a batch with a part has its Prepare
pub record HasPrepare (J : List Record) (b : Batch) : Type 0 where
  pub cause : ℕ
  pub txs : List Compact
  pub stands : record_of 6 J b ≡ Some (Prepare cause b txs)

some_part : (K : Shape) (s : ℕ) → is_no_part (part K s 0 []) ≡ false → ⊥
some_part K s h = let z : true ≡ false = h in cc

pub has_prepare : (K : Shape) (J : List Record) (b : Batch) (s : ℕ) → is_no_part (part K s 0 (txs_of J b)) ≡ false → HasPrepare J b
has_prepare K J b s h = elim (record_of 6 J b) as (λ o. record_of 6 J b ≡ o → is_no_part (part K s 0 (txs_in o)) ≡ false → HasPrepare J b) [
  | None ↦ λ e h. absurd (some_part K s h)
  | Some r ↦ λ e h. let f = found_prepare J b (ap is_some e) in record { cause = f.0; txs = f.1; stands = f.2 }
] refl h

module _ (K : Shape) (minting : Minted) (P : Compact → Type 0) (shards : 0 < K.shards) (later : List Row) (kept : Steady K minting P later) where
  abbrev J : ℕ → List Record
  J n = journal n (later ++ first_rows K minting)

  -- of a batch whose Prepare stands, and whose number is the lane's
  module _ (b : Batch) (cause : ℕ) (txs : List Compact) (stands : record_of 6 (J (b.lane / K.lanes)) b ≡ Some (Prepare cause b txs))
      (number : (slot (J (b.lane / K.lanes)) b.lane).number ≡ b.number) where
    pub lock_for : (s : ℕ) → Concerned K txs s → has_lock (J (shard_node K s)) b ≡ false → suc (max (last_stamp (J (shard_node K s))) cause) ≤ 2 ^ 62
        → LockFor K minting.id J (shard_node K s) b (max (last_stamp (J (shard_node K s))) cause)
    lock_for s c missing in_time =
        let due = lock_next K minting P shards later kept b cause txs stands number s c missing in_time in
        record {
          r = due_lock K minting P shards later kept b cause txs stands number s;
          next = due.next;
          caused = due.caused;
          grammar = due.grammar;
          of_kind = same_batch_self b;
          is_lock = tt;
          stamp = refl;
        }
