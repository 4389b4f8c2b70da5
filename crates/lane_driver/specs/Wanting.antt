-- Where a batch whose driver has all its memory is refused some still: by a node, at its Prepare or at a Lock.
use Rattle.std.specs.Prelude.{◌≡◌, ℕ, Bool, true, List, map, Ok, Err}
use Rattle.cbdc_types.specs.declared.calls.NodeFault.TheVariants.{Memory}
use Rattle.cbdc_model.specs.Records.{Shape, Batch, Compact, Entry}
use Rattle.cbdc_model.specs.Ranges.{home_of, shard_node}
use Rattle.cbdc_model.specs.Due.{prepare_due}
use Rattle.cbdc_model.specs.Sights.{Sight, Told}
use Rattle.lane_laws.specs.Calls.{AreParts, lock_call_of}
use Rattle.lane_laws.specs.Answers.{LockAnswer, StoppedAt}

-- a prepared batch stopped because memory ran out: at the Lock of a shard, with nothing asked behind the Locks
pub record IsLockWant (K : Shape) (alone : Bool) (b : Batch) (cause : ℕ) (parts : List (ℕ × List Entry)) (log log' : Sight) (I J : ℕ → Sight)
    (node : ℕ) : Type 0 where
  pub shard : ℕ
  pub stopped : StoppedAt (LockAnswer alone) (map (lock_call_of b cause) parts) I J shard Memory
  pub log_same : log' ≡ log
  pub node_is : node ≡ shard_node K shard

-- a batch did: at its Prepare, with no shard asked, or behind it at a Lock
pub data IsWant (K : Shape) (alone : Bool) (lane : ℕ) (txs : List Compact) (parts : List (ℕ × List Entry)) (log log' : Sight) (I J : ℕ → Sight)
    (node : ℕ) : Type 0 where
  wants_at_prepare : Told alone lane true (prepare_due log.header.shape log.capacity lane txs) log log' (Err Memory) → ((s : ℕ) → J s ≡ I s)
      → node ≡ home_of K lane → IsWant K alone lane txs parts log log' I J node
  wants_at_lock : (b : Batch) (log_prepared : Sight) (prepared : ℕ)
      → Told alone lane true (prepare_due log.header.shape log.capacity lane txs) log log_prepared (Ok (b, prepared))
      → IsLockWant K alone b prepared parts log_prepared log' I J node → IsWant K alone lane txs parts log log' I J node

-- so did a batch that was cut into its parts
abbrev pub IsBatchWant : Shape → Bool → ℕ → List Compact → Sight → (ℕ → Sight) → Sight → (ℕ → Sight) → ℕ → Type 0
IsBatchWant K alone lane txs log I log' J node = (parts : List (ℕ × List Entry)) × AreParts K txs parts
    × IsWant K alone lane txs parts log log' I J node
