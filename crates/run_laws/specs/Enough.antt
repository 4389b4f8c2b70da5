-- What comes of room and stamps enough: none is wanting.
use Rattle.std.specs.Prelude.{◌≡◌, ℕ, ◌+◌, ◌*◌, ◌^◌, ◌<◌, ◌≤◌, Bool, List, ◌∷◌, ◌++◌, reverse, Some}
use Rattle.cbdc_types.specs.Limits.{IsWithinLimits}
use Rattle.cbdc_model.specs.Records.{Shape, Batch, Compact, Record, record_of, stamp_of, Prepare, prepare_kind}
use Rattle.cbdc_model.specs.Slots.{slot}
use Rattle.cbdc_model.specs.Ranges.{home_of, shard_node, part, Concerned}
use Rattle.cbdc_model.specs.Room.{kept_room, need_of}
use Rattle.cbdc_model.specs.Due.{used_of, prepare_record, lock_record}
use Rattle.cbdc_model.specs.Coins.{FullTx}
use Rattle.cbdc_model.specs.History.{Minted}
use Rattle.cbdc_model.specs.Lanes.{IsEnd}
use Rattle.cbdc_model.specs.Waves.{prepared}
use Rattle.cbdc_model.specs.World.{AreIdle}
use Rattle.run_laws.specs.Checked.{CheckedJournals}
use Rattle.run_laws.specs.Ample.{Ample, AreCut}

-- from journals E to journals X a lane has prepared the first of the batches that it makes of the files, in order; these are left
pub record HasBatchesLeft (K : Shape) (sound : FullTx → Bool) (files : List (List FullTx)) (E X : ℕ → List Record) (lane : ℕ)
    (left : List (List Compact)) : Type 0 where
  pub done : List (List Compact)
  pub cut : AreCut K sound files lane (done ++ left)
  pub prepares : prepared lane (X (home_of K lane)) ≡ reverse done ++ prepared lane (E (home_of K lane))

-- checked journals E have grown to checked journals X, and no lane has prepared anything else
pub record IsUnderway (K : Shape) (m : Minted) (sound : FullTx → Bool) (files : List (List FullTx)) (E X : ℕ → List Record) : Type 0 where
  pub old : CheckedJournals K m E
  pub new : CheckedJournals K m X
  pub grows : (n : ℕ) → IsEnd (E n) (X n)
  pub lanes : (lane : ℕ) → lane < K.coordinators * K.lanes → (left : List (List Compact)) × HasBatchesLeft K sound files E X lane left

-- the node's disk has room for this record behind this journal, and the record's stamp is early
abbrev pub HasRoom : Shape → (ℕ → ℕ) → ℕ → List Record → Record → Type 0
HasRoom K capacity node front r = (used_of front + need_of K front r ≤ capacity node) × (stamp_of r ≤ 2 ^ 62)

-- behind a beginning of its coordinator's journal, since E, there is room for a lane's next Prepare
abbrev pub PrepareRoomLaw : Type 0
PrepareRoomLaw = (K : Shape) (m : Minted) (sound : FullTx → Bool) (capacity : ℕ → ℕ) (files : List (List FullTx)) (E X : ℕ → List Record) (lane : ℕ)
    (txs : List Compact) (left : List (List Compact)) (front : List Record)
    → IsWithinLimits K → Ample K sound capacity files E → IsUnderway K m sound files E X → lane < K.coordinators * K.lanes
    → HasBatchesLeft K sound files E X lane (txs ∷ left)
    → IsEnd (E (home_of K lane)) front → IsEnd front (X (home_of K lane)) → HasRoom K capacity (home_of K lane) front (prepare_record front lane txs)

-- behind a beginning of a concerned shard's journal, since E, there is room for the Lock of a prepared batch to which the shard has not come
abbrev pub LockRoomLaw : Type 0
LockRoomLaw = (K : Shape) (m : Minted) (sound : FullTx → Bool) (capacity : ℕ → ℕ) (files : List (List FullTx)) (E X : ℕ → List Record) (b : Batch)
    (stamp : ℕ) (txs : List Compact) (s : ℕ) (front : List Record)
    → IsWithinLimits K → Ample K sound capacity files E → IsUnderway K m sound files E X → b.lane < K.coordinators * K.lanes
    → record_of prepare_kind (X (home_of K b.lane)) b ≡ Some (Prepare stamp b txs) → Concerned K txs s
    → (slot (X (shard_node K s)) b.lane).number < b.number
    → IsEnd (E (shard_node K s)) front → IsEnd front (X (shard_node K s))
    → HasRoom K capacity (shard_node K s) front (lock_record front (record { batch = b; part = part K s 0 txs; cause = stamp }))

-- and each node's disk has room for what is kept for its open batches
abbrev pub KeptRoomLaw : Type 0
KeptRoomLaw = (K : Shape) (m : Minted) (sound : FullTx → Bool) (capacity : ℕ → ℕ) (files : List (List FullTx)) (E : ℕ → List Record) (n : ℕ)
    → IsWithinLimits K → Ample K sound capacity files E → CheckedJournals K m E → n < K.coordinators + K.shards
    → used_of (E n) + kept_room K (E n) ≤ capacity n

-- where every lane is idle, none is kept
abbrev pub IdleRoomLaw : Type 0
IdleRoomLaw = (K : Shape) (m : Minted) (E : ℕ → List Record) (n : ℕ) → IsWithinLimits K → CheckedJournals K m E → AreIdle K E
    → n < K.coordinators + K.shards → kept_room K (E n) ≡ 0
