-- What a batch and a lane came to: done, or stopped at a call, with the answer of the node that was called. It is told call by call; what is left of
-- the batch and of the lane, what the fault had its cause in and where memory ran out follow from it (proofs/Outcomes.antt).
use Rattle.std.specs.Prelude.{◌≡◌, ◌⊎◌, ℕ, ◌<◌, Bool, List, [], ◌∷◌, length, reverse, take, Result, Ok, Err}
use Rattle.cbdc_types.specs.declared.calls.LockCall.{LockCall}
use Rattle.cbdc_types.specs.declared.calls.NodeFault.{NodeFault}
use Rattle.cbdc_types.specs.declared.calls.NodeFault.TheVariants.{Memory}
use Rattle.cbdc_model.specs.Records.{Shape, Batch, Compact, Entry, Outcome}
use Rattle.lane_laws.specs.Calls.{AreParts}
use Rattle.lane_laws.specs.Traces.{ToldDiscarded, ToldCommitted, ToldPrepared, ToldBatch, DiscardedStopped, CommittedStopped, PreparedStopped}
use Rattle.lane_laws.specs.Traces.{ToldStopped}
use Rattle.lane_driver.specs.declared.fault.Stop.{Stop}
use Rattle.lane_driver.specs.declared.fault.BatchReport.{BatchReport}
use Rattle.lane_driver.specs.declared.fault.LaneReport.{LaneReport}
use Rattle.lane_driver.specs.declared.fault.LaneFault.{LaneFault}
use Rattle.lane_driver.specs.Faults.{IsLaneFaultOf}
use Rattle.lane_driver.specs.Causes.{IsCausedStop}
use Rattle.lane_driver.specs.Wanting.{IsLockWant, IsWant}
use Rattle.lane_driver.specs.Reports.{AreDone}
use Rattle.lane_driver.specs.Stops.{DriverHasNoMemory}
use Rattle.lane_driver.specs.Showing.{LaneSights}

-- a batch stopped at this answer of this node: so it was told, call by call; the node is so that it answers this, as it is seen at last; and where
-- the answer is that memory ran out, the call at this node was one that takes some
pub record IsStop (K : Shape) (new : LaneSights) (told : ℕ → NodeFault → Type 0) (takes : ℕ → Type 0) (e : Stop) : Type 0 where
  pub told_so : told e.node e.fault
  pub cause : IsCausedStop K new.logs new.shards e.node e.fault
  pub want : e.fault ≡ Memory → takes e.node

-- no call takes memory
abbrev pub TakesNone : ℕ → Type 0
TakesNone node = ⊥

-- what a batch came to from its Discard on: it was told to its end, or stopped at a call, but not because memory ran out
abbrev pub DiscardedResult : {A : Type 0} → Shape → Bool → Batch → ℕ → ℕ → List (ℕ × LockCall) → Result A Stop → LaneSights → LaneSights → Type 0
DiscardedResult K alone b cause repeats locks (Ok a) old new = ToldDiscarded alone b cause repeats locks old.home new.home old.shards new.shards
DiscardedResult K alone b cause repeats locks (Err e) old new =
    IsStop K new (DiscardedStopped K alone b cause repeats locks old.home new.home old.shards new.shards) TakesNone e

-- what a batch came to from its Commit on: it was told to its end, or stopped at a call, but not because memory ran out
abbrev pub CommittedResult : {A : Type 0} → Shape → Bool → Batch → ℕ → List Outcome → ℕ → List (ℕ × LockCall) → Result A Stop → LaneSights
    → LaneSights → Type 0
CommittedResult K alone b cause os repeats locks (Ok a) old new = ToldCommitted alone b cause os repeats locks old.home new.home old.shards new.shards
CommittedResult K alone b cause os repeats locks (Err e) old new =
    IsStop K new (CommittedStopped K alone b cause os repeats locks old.home new.home old.shards new.shards) TakesNone e

-- what a batch came to from its Prepare on: it was told to its end, with these outcomes, or stopped at a call; memory ran out at a Lock alone
abbrev pub PreparedResult : Shape → Bool → Batch → ℕ → ℕ → List (ℕ × List Entry) → Result (List Outcome) Stop → LaneSights → LaneSights → Type 0
PreparedResult K alone b cause repeats parts (Ok os) old new = ToldPrepared alone b cause repeats parts old.home new.home old.shards new.shards os
PreparedResult K alone b cause repeats parts (Err e) old new =
    IsStop K new (PreparedStopped K alone b cause repeats parts old.home new.home old.shards new.shards)
    (IsLockWant K alone b cause parts old.home new.home old.shards new.shards) e

-- a whole batch was done, cut into its parts
abbrev pub IsBatchDone : Shape → Bool → ℕ → List Compact → ℕ → LaneSights → LaneSights → BatchReport → Type 0
IsBatchDone K alone lane txs repeats old new r =
    (parts : List (ℕ × List Entry)) × AreParts K txs parts
    × ToldBatch alone lane txs repeats parts old.home new.home old.shards new.shards r.batch r.outcomes

-- or it stopped
abbrev pub IsBatchStop : Shape → Bool → ℕ → List Compact → ℕ → LaneSights → LaneSights → Stop → Type 0
IsBatchStop K alone lane txs repeats old new e =
    (parts : List (ℕ × List Entry)) × AreParts K txs parts
    × IsStop K new (ToldStopped K alone lane txs repeats parts old.home new.home old.shards new.shards)
    (IsWant K alone lane txs parts old.home new.home old.shards new.shards) e

-- the lane's fault is that of a batch that stopped
abbrev pub IsFaultOfBatch : Shape → Bool → ℕ → List Compact → ℕ → LaneSights → LaneSights → LaneFault → Type 0
IsFaultOfBatch K alone lane txs repeats old new e = (stop : Stop) × IsLaneFaultOf e stop.node stop.fault
    × IsBatchStop K alone lane txs repeats old new stop

-- or the batch was not begun because the driver ran out of memory
abbrev pub IsBatchEnd : Shape → Bool → ℕ → List Compact → ℕ → LaneSights → LaneSights → LaneFault → Type 0
IsBatchEnd K alone lane txs repeats old new e =
    DriverHasNoMemory e old.home old.shards new.home new.shards ⊎ IsFaultOfBatch K alone lane txs repeats old new e

-- what a batch came to, where it stopped by the node's answer
abbrev pub DriveResult : Shape → Bool → ℕ → List Compact → ℕ → Result BatchReport Stop → LaneSights → LaneSights → Type 0
DriveResult K alone lane txs repeats (Ok r) old new = IsBatchDone K alone lane txs repeats old new r
DriveResult K alone lane txs repeats (Err e) old new = IsBatchStop K alone lane txs repeats old new e

-- what a batch came to whose driver has all its memory
abbrev pub BatchResult : Shape → Bool → ℕ → List Compact → ℕ → Result BatchReport LaneFault → LaneSights → LaneSights → Type 0
BatchResult K alone lane txs repeats (Ok r) old new = IsBatchDone K alone lane txs repeats old new r
BatchResult K alone lane txs repeats (Err e) old new = IsFaultOfBatch K alone lane txs repeats old new e

-- what the one batch of a lane came to, with its driver's memory
abbrev pub OneBatchResult : Shape → Bool → ℕ → List Compact → ℕ → Result LaneReport LaneFault → LaneSights → LaneSights → Type 0
OneBatchResult K alone lane txs repeats (Ok r) old new = (one : BatchReport) × (r.batches ≡ one ∷ [])
    × IsBatchDone K alone lane txs repeats old new one
OneBatchResult K alone lane txs repeats (Err e) old new = IsBatchEnd K alone lane txs repeats old new e

-- a lane stopped: these batches, the newest first, are done, and that of the very next piece of what is left stopped, or was not begun because the
-- driver ran out of memory
pub record IsLaneStop (K : Shape) (alone : Bool) (lane : ℕ) (txs : List Compact) (repeats : ℕ) (old new : LaneSights) (e : LaneFault) : Type 0 where
  pub reports : List BatchReport
  pub rest : List Compact
  pub left : 0 < length rest
  pub between : LaneSights
  pub done : AreDone K alone lane txs old.home old.shards reports rest between.home between.shards
  pub ended : IsBatchEnd K alone lane (take K.batch rest) repeats between new e

-- what a lane came to: all its batches are done, one behind the other, each with the outcomes that it reports; or it stopped, or was not begun
-- because the driver ran out of memory
abbrev pub LaneResult : Shape → Bool → ℕ → List Compact → ℕ → Result LaneReport LaneFault → LaneSights → LaneSights → Type 0
LaneResult K alone lane txs repeats (Ok r) old new = AreDone K alone lane txs old.home old.shards (reverse r.batches) [] new.home new.shards
LaneResult K alone lane txs repeats (Err e) old new =
    DriverHasNoMemory e old.home old.shards new.home new.shards ⊎ IsLaneStop K alone lane txs repeats old new e
