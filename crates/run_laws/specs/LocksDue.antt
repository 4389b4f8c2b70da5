-- Locks that are still to come.
use Rattle.std.specs.Prelude.{◌≡◌, ℕ, zero, suc, ◌+◌, ◌*◌, ◌^◌, ◌<◌, ◌≤◌, max, Bool, true, ◌&&◌, not, List, [], ◌∷◌, ◌++◌, length, if◌then◌else◌}
use Rattle.std.specs.Prelude.{is_some}
use Rattle.cbdc_model.specs.Records.{Shape, Record, record_of, txs_of, stamp_in, last_stamp, Lock, lock_kind, prepare_kind}
use Rattle.cbdc_model.specs.Ranges.{shard_node, home_of, part, is_no_part}
use Rattle.cbdc_model.specs.Due.{open_batch}
use Rattle.cbdc_model.specs.Coins.{Output, FullTx}
use Rattle.cbdc_model.specs.History.{minted}
use Rattle.cbdc_model.specs.World.{World, journals, Event, Begin, Run, KeptWorld}
use Rattle.ledger_laws.specs.Resumed.{openings}
pub use Rattle.ledger_laws.specs.Resumed.{opened}

-- whether the lane's last batch has a part for shard s and no Lock there, by the journals of the two nodes
abbrev pub lacks_lock_by : Shape → List Record → List Record → ℕ → ℕ → Bool
lacks_lock_by K home own s lane =
    not (is_no_part (part K s 0 (txs_of home (open_batch home lane)))) && not (is_some (record_of lock_kind own (open_batch home lane)))

-- a lane's last batch has a part for a shard, and no Lock there
abbrev pub lacks_lock : Shape → (ℕ → List Record) → ℕ → ℕ → Bool
lacks_lock K J s lane = lacks_lock_by K (J (home_of K lane)) (J (shard_node K s)) s lane

-- how many of the first n lanes have a Lock to come at shard s
abbrev pub locks_due : Shape → (ℕ → List Record) → ℕ → ℕ → ℕ
locks_due K J s zero = 0
locks_due K J s (suc n) = (if lacks_lock K J s n then 1 else 0) + locks_due K J s n

-- the stamp of the Prepare of a lane's last batch, which causes its Locks
abbrev pub lock_cause : Shape → (ℕ → List Record) → ℕ → ℕ
lock_cause K J lane = stamp_in (record_of prepare_kind (J (home_of K lane)) (open_batch (J (home_of K lane)) lane))

-- the greater of the shard's last stamp and that of the lane's Prepare: its Lock's stamp is one more
abbrev pub before_lock : Shape → (ℕ → List Record) → ℕ → ℕ → ℕ
before_lock K J s lane = max (last_stamp (J (shard_node K s))) (lock_cause K J lane)

-- no Lock that is still to come needs a stamp above 2^62: there are stamps left for all of a shard, one behind another
abbrev pub LocksFit : Shape → (ℕ → List Record) → Type 0
LocksFit K J = (s lane : ℕ) → s < K.shards → lane < K.coordinators * K.lanes → lacks_lock K J s lane ≡ true
    → before_lock K J s lane + locks_due K J s (K.coordinators * K.lanes) ≤ 2 ^ 62

-- a Lock is still to come that needs a stamp above 2^62
pub record IsStuck (K : Shape) (J : ℕ → List Record) : Type 0 where
  pub shard : ℕ
  pub lane : ℕ
  pub of_shape : (shard < K.shards) × (lane < K.coordinators * K.lanes)
  pub lacks : lacks_lock K J shard lane ≡ true
  pub needs : 2 ^ 62 < suc (before_lock K J shard lane)

-- the record is a Lock
abbrev pub IsLock : Record → Type 0
IsLock (Lock stamp b es) = Unit {0}
IsLock other = ⊥

-- the event begins no record but a Lock
abbrev pub BeginsOnlyLock : Event → Type 0
BeginsOnlyLock (Begin n r) = IsLock r
BeginsOnlyLock other = Unit {0}

-- the events begin no records but Locks
abbrev pub BeginLocks : List Event → Type 0
BeginLocks [] = Unit {0}
BeginLocks (e ∷ es) = BeginsOnlyLock e × BeginLocks es

-- the nodes are opened again, and then Locks alone lead to a kept world in which one more would need a stamp above 2^62
pub record Sticks (K : Shape) (mint : List Output) (submissions : List FullTx) (kept_at : ℕ → Bool) (w : World) : Type 0 where
  pub asked : List Event
  pub after : World
  pub run : Run K (minted mint) w (openings kept_at (length w) ++ asked) after
  pub locks : BeginLocks asked
  pub kept : KeptWorld K mint submissions after
  pub stuck : IsStuck K (journals after)
