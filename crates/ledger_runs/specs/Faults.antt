-- Why a lane stopped, by the journals then and at any later time.
use Rattle.std.specs.Prelude.{◌≡◌, ◌⊎◌, ℕ, zero, suc, ◌+◌, ◌*◌, ◌^◌, ◌<◌, ◌≤◌, true, List, [], ◌∷◌, ◌++◌, Some}
use Rattle.cbdc_model.specs.Records.{Shape, Batch, Compact, Record, record_of, stamp_of, is_in_lane, Prepare, lock_kind, prepare_kind}
use Rattle.cbdc_model.specs.Slots.{slot, Idle, InPrepare}
use Rattle.cbdc_model.specs.Ranges.{home_of, shard_node, part}
use Rattle.cbdc_model.specs.Room.{need_of}
use Rattle.cbdc_model.specs.Due.{used_of, prepare_record, lock_record}
use Rattle.cbdc_model.specs.Lanes.{IsEnd}
use Rattle.cbdc_model.specs.Sights.{HasRisen}
use Rattle.lane_laws.specs.Batches.{own}
use Rattle.lane_laws.specs.Calls.{is_concerned}
use Rattle.lane_laws.specs.Faults.{HaveBelow}
use Rattle.run_laws.specs.Faults.{IsAsked}
use Rattle.lane_driver.specs.declared.fault.LaneFault.{LaneFault}
use Rattle.lane_driver.specs.declared.fault.LaneFaultKind.{LaneFaultKind}
use Rattle.lane_driver.specs.declared.fault.LaneFaultKind.TheVariants.{DiskFault as DiskStopped, Full as NoRoom, ClockEnd as NoStamp}
use Rattle.lane_driver.specs.declared.fault.LaneFaultKind.TheVariants.{Memory as NoMemory}
use Rattle.ledger_runs.specs.Turning.{lane_phase, IsLaneOf}
use Rattle.ledger_runs.specs.Waving.{EachLane}
use Rattle.ledger_runs.specs.Pieces.{HasPreparedPieces, IsNextPiece}
use Rattle.ledger_runs.specs.Lanes.{LaneOf}

-- all of these records are the lane's
abbrev pub AreOfLane : ℕ → List Record → Type 0
AreOfLane lane [] = Unit {0}
AreOfLane lane (r ∷ more) = (is_in_lane lane r ≡ true) × AreOfLane lane more

-- each journal has grown at its end, by records of the lane alone
abbrev pub GrowBy : ℕ → (ℕ → List Record) → (ℕ → List Record) → Type 0
GrowBy lane I J = (n : ℕ) → (more : List Record) × (J n ≡ more ++ I n) × AreOfLane lane more

-- the first so many lanes have been taken up in rising order, each by records of its own alone
abbrev pub TookLanes : ℕ → (ℕ → List Record) → (ℕ → List Record) → Type 0
TookLanes zero E X = (n : ℕ) → X n ≡ E n
TookLanes (suc lane) E X = (middle : ℕ → List Record) × TookLanes lane E middle × GrowBy lane middle X

-- so has some number of the lanes
abbrev pub TakesInOrder : Shape → (ℕ → List Record) → (ℕ → List Record) → Type 0
TakesInOrder K E X = (lanes : ℕ) × (lanes ≤ K.coordinators * K.lanes) × TookLanes lanes E X

-- the record that the lane still wants at a node by journals X, as it would stand there behind `front`: where the lane is idle, its next Prepare,
-- of transactions that are next; where its batch is prepared, the Lock of a concerned shard that has not come to this batch, each lesser one having
-- its Lock
pub data IsWanted (K : Shape) (lane : ℕ) (next : List Compact → Type 0) (X : ℕ → List Record) (node : ℕ) (front : List Record) (r : Record) : Type 0
  where
    wants_prepare : (txs : List Compact) → next txs → node ≡ home_of K lane → lane_phase K X lane ≡ Idle → r ≡ prepare_record front lane txs
        → IsWanted K lane next X node front r
    wants_lock : (b : Batch) (t : ℕ) (txs : List Compact) (s : ℕ) → b.lane ≡ lane → node ≡ shard_node K s → is_concerned K txs s ≡ true
        → lane_phase K X lane ≡ InPrepare
        → record_of prepare_kind (X (home_of K lane)) b ≡ Some (Prepare t b txs) → HaveBelow K txs (λ k. X (shard_node K k)) lock_kind b s
        → (slot (X node) lane).number < b.number
        → r ≡ lock_record front (record { batch = b; part = part K s 0 txs; cause = t }) → IsWanted K lane next X node front r

-- behind a front of the node's journal, which the journal at entry begins and behind which nothing of the lane came, its disk has no room for what
-- the wanted record needs there, whose stamp is not past the last one
pub record HasNoRoomFor (K : Shape) (lane : ℕ) (next : List Compact → Type 0) (E X : ℕ → List Record) (may_hold : ℕ → ℕ → Type 0)
    (node used need capacity : ℕ) : Type 0 where
  pub front : List Record
  pub since : IsEnd (E node) front
  pub within : IsEnd front (X node)
  pub still : slot front lane ≡ slot (X node) lane
  pub wanted : Record
  pub is_wanted : IsWanted K lane next X node front wanted
  pub early : stamp_of wanted ≤ 2 ^ 62
  pub capacity_is : may_hold node capacity
  pub used_is : used ≡ used_of front
  pub need_is : need ≡ need_of K front wanted
  pub above : capacity < used + need

-- or behind such a front of the node's journal the wanted record's stamp is past the last one that it may have
pub record HasNoStampFor (K : Shape) (lane : ℕ) (next : List Compact → Type 0) (E X : ℕ → List Record) (node stamp : ℕ) : Type 0 where
  pub front : List Record
  pub since : IsEnd (E node) front
  pub within : IsEnd front (X node)
  pub still : slot front lane ≡ slot (X node) lane
  pub wanted : Record
  pub is_wanted : IsWanted K lane next X node front wanted
  pub stamp_is : stamp ≡ stamp_of wanted
  pub above : 2 ^ 62 < stamp

-- it is a node of the ledger that the lane asks, by journals X, and its disk has failed
pub record HasNoDiskFor (K : Shape) (lane : ℕ) (next : List Compact → Type 0) (X : ℕ → List Record) (failed : ℕ → Type 0) (node : ℕ) : Type 0 where
  pub inside : node < K.coordinators + K.shards
  pub asked : IsAsked K lane next X node
  pub did : failed node

-- the lane's batch is prepared and lacks a Lock: a shard that it concerns has not come to it
pub record LacksLock (K : Shape) (lane : ℕ) (X : ℕ → List Record) : Type 0 where
  pub batch : Batch
  pub of_lane : batch.lane ≡ lane
  pub stamp : ℕ
  pub txs : List Compact
  pub phase : lane_phase K X lane ≡ InPrepare
  pub prepare : record_of prepare_kind (X (home_of K lane)) batch ≡ Some (Prepare stamp batch txs)
  pub shard : ℕ
  pub concerned : is_concerned K txs shard ≡ true
  pub lacks : (slot (X (shard_node K shard)) lane).number < batch.number

-- the lane is between batches, or its batch lacks a Lock
abbrev pub IsBeforeLocks : Shape → ℕ → (ℕ → List Record) → Type 0
IsBeforeLocks K lane X = (lane_phase K X lane ≡ Idle) ⊎ LacksLock K lane X

-- the cause of a lane's fault of this node and kind, from journals E to X, by the nodes whose disks have failed and what disks may hold. A node that
-- the lane asks has a disk that failed, or no room or no stamp for what the lane wants; or memory runs out between batches, or before a batch has its
-- Locks
abbrev pub IsCauseOf : Shape → ℕ → (List Compact → Type 0) → (ℕ → List Record) → (ℕ → List Record) → (ℕ → Type 0) → (ℕ → ℕ → Type 0) → ℕ
    → LaneFaultKind → Type 0
IsCauseOf K lane next E X failed may_hold node DiskStopped = HasNoDiskFor K lane next X failed node
IsCauseOf K lane next E X failed may_hold node (NoRoom used need capacity) = HasNoRoomFor K lane next E X may_hold node used need capacity
IsCauseOf K lane next E X failed may_hold node (NoStamp stamp) = HasNoStampFor K lane next E X node stamp
IsCauseOf K lane next E X failed may_hold node NoMemory = IsBeforeLocks K lane X

-- the cause of a lane's fault, by its node and its kind (`IsCauseOf`)
abbrev pub IsLaneCause : Shape → ℕ → (List Compact → Type 0) → (ℕ → List Record) → (ℕ → List Record) → (ℕ → Type 0) → (ℕ → ℕ → Type 0) → LaneFault
    → Type 0
IsLaneCause K lane next E X failed may_hold e = IsCauseOf K lane next E X failed may_hold e.node e.fault

-- the same of some lane, each with the transactions that are next for it; that memory ran out is free
abbrev pub IsSomeCauseOf : Shape → (ℕ → List Compact → Type 0) → (ℕ → List Record) → (ℕ → List Record) → (ℕ → Type 0) → (ℕ → ℕ → Type 0) → ℕ
    → LaneFaultKind → Type 0
IsSomeCauseOf K next E X failed may_hold node DiskStopped = (lane : ℕ) × IsLaneOf K lane × HasNoDiskFor K lane (next lane) X failed node
IsSomeCauseOf K next E X failed may_hold node (NoRoom used need capacity) = (lane : ℕ) × IsLaneOf K lane
    × HasNoRoomFor K lane (next lane) E X may_hold node used need capacity
IsSomeCauseOf K next E X failed may_hold node (NoStamp stamp) = (lane : ℕ) × IsLaneOf K lane × HasNoStampFor K lane (next lane) E X node stamp
IsSomeCauseOf K next E X failed may_hold node NoMemory = Unit {0}

-- the cause of a fault of some lane, by its node and its kind (`IsSomeCauseOf`)
abbrev pub IsRunCause : Shape → (ℕ → List Compact → Type 0) → (ℕ → List Record) → (ℕ → List Record) → (ℕ → Type 0) → (ℕ → ℕ → Type 0) → LaneFault
    → Type 0
IsRunCause K next E X failed may_hold e = IsSomeCauseOf K next E X failed may_hold e.node e.fault

-- the node's count of faults has risen since it was opened
abbrev pub HaveFailed : (ℕ → ℕ) → (ℕ → ℕ) → ℕ → Type 0
HaveFailed opened faults n = HasRisen (opened n) (faults n)

-- the node's disk may hold so many bytes
abbrev pub MayHoldBytes : (ℕ → ℕ) → ℕ → ℕ → Type 0
MayHoldBytes capacity n c = c ≡ capacity n

-- no transactions are next for a lane
abbrev pub Nothing : List Compact → Type 0
Nothing txs = ⊥

-- where a lane stands: between batches; its batch lacks a Lock; or it has an open batch, and the disk of a node that it asks has failed
abbrev pub LaneRests : Shape → ℕ → (ℕ → List Record) → (ℕ → Type 0) → Type 0
LaneRests K lane X failed = IsBeforeLocks K lane X ⊎ ((node : ℕ) × HasNoDiskFor K lane Nothing X failed node)

-- where each lane stands (`LaneRests`)
abbrev pub LanesRest : Shape → (ℕ → List Record) → (ℕ → Type 0) → Type 0
LanesRest K X failed = (lane : ℕ) → IsLaneOf K lane → LaneRests K lane X failed

-- nothing of the lane was written, from journals E to X
abbrev pub IsLaneUntouched : ℕ → (ℕ → List Record) → (ℕ → List Record) → Type 0
IsLaneUntouched lane E X = (n : ℕ) → own lane (X n) ≡ own lane (E n)

-- the lane waits where it was: its batch was prepared, and is so still
abbrev pub LaneWaits : Shape → ℕ → (ℕ → List Record) → (ℕ → List Record) → Type 0
LaneWaits K lane E X = (lane_phase K X lane ≡ InPrepare) × HasPreparedPieces K lane [] E X

-- the cause of the fault of a lane whose open batch is brought to its end; where memory ran out it may wait, too
abbrev pub IsOpenCause : Shape → ℕ → (ℕ → List Record) → (ℕ → List Record) → (ℕ → Type 0) → (ℕ → ℕ → Type 0) → LaneFault → Type 0
IsOpenCause K lane E X failed may_hold e = ((e.fault ≡ NoMemory) × LaneWaits K lane E X) ⊎ IsLaneCause K lane Nothing E X failed may_hold e

-- the lane rests, or memory ran out for it and it waits
abbrev pub RestsOrWaits : Shape → ℕ → (ℕ → List Record) → (ℕ → List Record) → (ℕ → Type 0) → Type 0 → Type 0
RestsOrWaits K lane E X failed wanting = LaneRests K lane X failed ⊎ (wanting × LaneWaits K lane E X)

-- each lane rests, or memory ran out for it and it waits
abbrev pub AllRestOrWait : Shape → (ℕ → List Record) → (ℕ → List Record) → (ℕ → Type 0) → (ℕ → Type 0) → Type 0
AllRestOrWait K E X failed wanting = (lane : ℕ) → IsLaneOf K lane → RestsOrWaits K lane E X failed (wanting lane)

-- each lane that has stopped has its cause
abbrev pub HaveCauses : Shape → (ℕ → List Record) → (ℕ → List Record) → (ℕ → Type 0) → (ℕ → ℕ → Type 0) → List LaneOf → Type 0
HaveCauses K E X failed may_hold lanes = EachLane
    (λ lane x. (e : LaneFault) → x.fault ≡ Some e → IsLaneCause K lane (IsNextPiece K lane x.txs E X) E X failed may_hold e) lanes
