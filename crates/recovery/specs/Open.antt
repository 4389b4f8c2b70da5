-- The lanes that are open at a coordinator.
use Rattle.std.specs.Prelude.{◌≡◌, ◌≢◌, ◌⊎◌, ℕ, ◌<◌, Bool, true, List, [], ◌∷◌, ◌++◌, length, map, Contains, Option, Some, None, Result, Ok, Err}
use Rattle.std.specs.List.{All, AllZip}
use Rattle.cbdc_types.specs.declared.batch.OpenLane.{OpenLane}
use Rattle.cbdc_types.specs.declared.batch.Phase.{Phase as OpenPhase}
use Rattle.cbdc_types.specs.declared.batch.Phase.TheVariants.{Prepared, Committed, Discarded}
use Rattle.cbdc_model.specs.Records.{Header, Compact}
use Rattle.cbdc_model.specs.Slots.{Phase, InPrepare, InCommit, InDiscard}
use Rattle.cbdc_model.specs.Grammar.{HasSize, IsBatchOf, IsCompact}
use Rattle.cbdc_model.specs.Records.{Shape, Entry, Record, outcomes_of}
use Rattle.cbdc_model.specs.Lanes.{IsEnd}
use Rattle.cbdc_model.specs.Sights.{Sight}
use Rattle.cbdc_types.specs.declared.calls.NodeFault.{NodeFault}
use Rattle.lane_laws.specs.Calls.{AreParts, lock_call_of}
use Rattle.lane_laws.specs.Traces.{DiscardedStopped, CommittedStopped, PreparedStopped}
use Rattle.lane_laws.specs.Resuming.{IsPreparedAt, IsCommittedAt, IsDiscardedAt, IsTakenUp, IsLeft}
use Rattle.lane_driver.specs.declared.fault.LaneFault.{LaneFault}
use Rattle.lane_driver.specs.declared.fault.Stop.{Stop}
use Rattle.lane_driver.specs.declared.port.LogPort.{Ghosts as LogGhosts}
use Rattle.lane_driver.specs.declared.port.PortSet.{Ghosts as SetGhosts}
use Rattle.lane_driver.specs.declared.port.Ports.{Ports}
use Rattle.lane_driver.specs.Causes.{IsCausedFault}
use Rattle.lane_driver.specs.Wanting.{IsLockWant}
use Rattle.lane_driver.specs.Stops.{IsLaneFaultOf, DriverHasNoMemory}
use Rattle.lane_driver.specs.Told.{IsLane, IsStamp, IsStillNode}
use Rattle.lane_driver.specs.Keeping.{KeepsLog, KeepsShards}
use Rattle.lane_driver.specs.Showing.{LaneSights}
use Rattle.lane_driver.specs.Outcomes.{IsStop}
use Rattle.recovery.specs.declared.resumed.Resumed.{Resumed}
use Rattle.recovery.specs.declared.resumed.ResumedBatch.{ResumedBatch}

-- the phase of the lane's last record
abbrev pub phase_of : OpenPhase → Phase
phase_of Prepared = InPrepare
phase_of Committed = InCommit
phase_of Discarded = InDiscard

-- from Committed on there are as many outcomes as transactions
abbrev pub HasOutcomes : OpenPhase → ℕ → ℕ → Type 0
HasOutcomes Prepared outcomes txs = Unit {0}
HasOutcomes Committed outcomes txs = outcomes ≡ txs
HasOutcomes Discarded outcomes txs = outcomes ≡ txs

-- the lane is open at the coordinator as told
pub record IsLaneOpen (h : Header) (phase : ℕ → Phase) (open_txs : ℕ → List Compact) (o : OpenLane) : Type 0 where
  pub lane : IsLane h o.batch.lane
  pub batch : IsBatchOf h.shape o.batch
  pub phase_is : phase o.batch.lane ≡ phase_of o.phase
  pub txs : open_txs o.batch.lane ≡ o.txs
  pub size : HasSize h.shape o.txs
  pub limits : All IsCompact o.txs
  pub stamp : IsStamp o.stamp
  pub outcomes : HasOutcomes o.phase (length o.outcomes) (length o.txs)

-- the lane is open at the coordinator that the port goes to
abbrev pub IsOpenThrough : {L : Type 0} → LogGhosts L → L → OpenLane → Type 0
IsOpenThrough log port o = IsLaneOpen (log.header port) (log.phase port) (log.open_txs port) o

-- the lanes of the open batches are above this one
abbrev pub LanesAbove : ℕ → List OpenLane → Type 0
LanesAbove n [] = Unit {0}
LanesAbove n (o ∷ os) = (n < o.batch.lane) × LanesAbove n os

-- the lanes of the open batches rise along the list
abbrev pub LanesRise : List OpenLane → Type 0
LanesRise [] = Unit {0}
LanesRise (o ∷ os) = LanesAbove o.batch.lane os × LanesRise os

-- the coordinator's lanes that are none of these are as before
abbrev pub KeepsUnlisted : Header → List OpenLane → (ℕ → Phase) → (ℕ → Phase) → (ℕ → List Compact) → (ℕ → List Compact) → Type 0
KeepsUnlisted h os p q t u = (lane : ℕ) → IsLane h lane → All (λ o. lane ≢ o.batch.lane) os → (q lane ≡ p lane) × (u lane ≡ t lane)

-- the batch was resumed, with an outcome for each transaction
pub record IsBatchResumed (o : OpenLane) (r : ResumedBatch) : Type 0 where
  pub batch : r.batch ≡ o.batch
  pub phase_is : r.phase ≡ o.phase
  pub outcomes : length r.outcomes ≡ length o.txs

-- each of these was resumed, in order
abbrev pub AreResumed : List OpenLane → List ResumedBatch → Type 0
AreResumed os rs = AllZip IsBatchResumed os rs

-- the journals have of the open batch what is told of it, and each shard has come as far with it as its phase lets it
abbrev pub IsBatchUnfinished : OpenPhase → Shape → OpenLane → Sight → (ℕ → Sight) → Type 0
IsBatchUnfinished Prepared K o log shards = IsPreparedAt K o.batch o.txs o.stamp log shards
IsBatchUnfinished Committed K o log shards = (prepared : ℕ) × IsCommittedAt K o.batch o.txs prepared o.stamp o.outcomes log shards
IsBatchUnfinished Discarded K o log shards = (prepared : ℕ) × IsDiscardedAt K o.batch o.txs prepared o.stamp log shards

-- the journals have of an open batch what is told of it, in the phase that it names (`IsBatchUnfinished`)
abbrev pub IsUnfinished : Shape → OpenLane → Sight → (ℕ → Sight) → Type 0
IsUnfinished K o log shards = IsBatchUnfinished o.phase K o log shards

-- the journals have of each open batch what is told of it, in the phase that it names (`IsBatchUnfinished`)
abbrev pub AreUnfinished : Shape → List OpenLane → Sight → (ℕ → Sight) → Type 0
AreUnfinished K os log shards = All (λ o. IsBatchUnfinished o.phase K o log shards) os

-- the outcomes of the batch are those of the Commit that was written now, or those that it had
abbrev pub HasItsOutcomes : OpenPhase → OpenLane → List Record → ResumedBatch → Type 0
HasItsOutcomes Prepared o J r = r.outcomes ≡ outcomes_of J o.batch
HasItsOutcomes Committed o J r = r.outcomes ≡ o.outcomes
HasItsOutcomes Discarded o J r = r.outcomes ≡ o.outcomes

-- it stopped at a node's fault
abbrev pub IsResumeStopped : Shape → Bool → OpenLane → Sight → (ℕ → Sight) → Sight → (ℕ → Sight) → LaneFault → Type 0
IsResumeStopped K alone o log I log' J e = IsBatchUnfinished o.phase K o log I
    → (n : ℕ) × (f : NodeFault) × IsLaneFaultOf e n f × IsLeft K alone o.batch log I log' J n f

-- what was told of it, call by call, from the phase on in which it stood: each concerned shard of a phase answered as it does (a lock with `Memory`
-- maybe unasked), and where one of them did not do what it was asked, the least such shard's fault is this
abbrev pub IsToldFrom : OpenPhase → Shape → Bool → OpenLane → List (ℕ × List Entry) → LaneSights → LaneSights → ℕ → NodeFault → Type 0
IsToldFrom Prepared K alone o parts old new n f = PreparedStopped K alone o.batch o.stamp 0 parts old.home new.home old.shards new.shards n f
IsToldFrom Committed K alone o parts old new n f =
    CommittedStopped K alone o.batch o.stamp o.outcomes 0 (map (lock_call_of o.batch o.stamp) parts) old.home new.home old.shards new.shards n f
IsToldFrom Discarded K alone o parts old new n f =
    DiscardedStopped K alone o.batch o.stamp 0 (map (lock_call_of o.batch o.stamp) parts) old.home new.home old.shards new.shards n f

-- it was prepared, and memory ran out at the Lock of this shard, with nothing asked behind the Locks
abbrev pub TakesAtLock : Shape → Bool → OpenLane → List (ℕ × List Entry) → LaneSights → LaneSights → ℕ → Type 0
TakesAtLock K alone o parts old new node = (o.phase ≡ Prepared)
    × IsLockWant K alone o.batch o.stamp parts old.home new.home old.shards new.shards node

-- it stood open, cut into its parts, and stopped at a call, with the answer of the node that was called
pub record IsResumeStop (K : Shape) (alone : Bool) (o : OpenLane) (old new : LaneSights) (e : LaneFault) : Type 0 where
  pub stands : IsUnfinished K o old.home old.shards
  pub parts : List (ℕ × List Entry)
  pub are_parts : AreParts K o.txs parts
  pub stop : Stop
  pub is_fault : IsLaneFaultOf e stop.node stop.fault
  pub stopped : IsStop K new (IsToldFrom o.phase K alone o parts old new) (TakesAtLock K alone o parts old new) stop

-- the open batch was taken to its end, and it is told with the phase in which it stood and its outcomes
pub record IsOneTaken (K : Shape) (alone : Bool) (o : OpenLane) (log : Sight) (I : ℕ → Sight) (log' : Sight) (J : ℕ → Sight) (r : ResumedBatch) :
    Type 0 where
  pub taken : IsTakenUp K alone o.batch log I log' J
  pub resumed : IsBatchResumed o r
  pub outcomes : HasItsOutcomes o.phase o log'.seen r

-- so was each of them, one behind the other
abbrev pub AreTakenUp : Shape → Bool → List OpenLane → List ResumedBatch → LaneSights → LaneSights → Type 0
AreTakenUp K alone [] [] old new = new ≡ old
AreTakenUp K alone [] (r ∷ rs) old new = ⊥
AreTakenUp K alone (o ∷ os) [] old new = ⊥
AreTakenUp K alone (o ∷ os) (r ∷ rs) old new =
    (between : LaneSights) × IsOneTaken K alone o old.home old.shards between.home between.shards r × AreTakenUp K alone os rs between new

-- what one of them came to: it was taken to its end, or it stopped
abbrev pub ResumeResult : Shape → Bool → OpenLane → Result ResumedBatch LaneFault → LaneSights → LaneSights → Type 0
ResumeResult K alone o (Ok r) old new = IsOneTaken K alone o old.home old.shards new.home new.shards r
ResumeResult K alone o (Err e) old new = IsResumeStop K alone o old new e

-- each of them was taken up, one behind the other, whatever those before it came to
abbrev pub AreTried : Shape → Bool → List OpenLane → List (Result ResumedBatch LaneFault) → LaneSights → LaneSights → Type 0
AreTried K alone [] [] old new = new ≡ old
AreTried K alone [] (c ∷ cs) old new = ⊥
AreTried K alone (o ∷ os) [] old new = ⊥
AreTried K alone (o ∷ os) (c ∷ cs) old new = (between : LaneSights) × ResumeResult K alone o c old between × AreTried K alone os cs between new

-- one of them was prepared
abbrev pub HasPreparedLane : List OpenLane → Type 0
HasPreparedLane os = (o : OpenLane) × Contains os o × (o.phase ≡ Prepared)

-- a node has gone on from how it stood: it is the same still, and its journal has grown at its end
pub record HasGoneOn (old new : Sight) : Type 0 where
  pub node : IsStillNode old new
  pub grows : IsEnd old.seen new.seen

-- one of them stopped; those before it were taken to their end, each of those behind it was taken up still, and the nodes have gone on since
pub record IsStoppedAmong (K : Shape) (alone : Bool) (os : List OpenLane) (old new : LaneSights) (e : LaneFault) : Type 0 where
  pub before : List OpenLane
  pub stopped_at : OpenLane
  pub behind : List OpenLane
  pub are : os ≡ before ++ stopped_at ∷ behind
  pub batches : List ResumedBatch
  pub there : LaneSights
  pub taken : AreTakenUp K alone before batches old there
  pub since : LaneSights
  pub stopped : IsResumeStop K alone stopped_at there since e
  pub came : List (Result ResumedBatch LaneFault)
  pub went_on : AreTried K alone behind came since new
  pub logs_on : (n : ℕ) → HasGoneOn (since.logs n) (new.logs n)
  pub shards_on : (n : ℕ) → HasGoneOn (since.shards n) (new.shards n)

-- what open batches came to whose memory was taken: each was taken to its end, or one of them stopped
abbrev pub OpenLanesResult : Shape → Bool → List OpenLane → Result Resumed LaneFault → LaneSights → LaneSights → Type 0
OpenLanesResult K alone os (Ok r) old new = AreTakenUp K alone os r.batches old new
OpenLanesResult K alone os (Err e) old new = IsStoppedAmong K alone os old new e

-- what they came to with their memory: that, or they were not begun because the driver ran out of memory
abbrev pub ResumingResult : Shape → Bool → List OpenLane → Result Resumed LaneFault → LaneSights → LaneSights → Type 0
ResumingResult K alone os (Ok r) old new = AreTakenUp K alone os r.batches old new
ResumingResult K alone os (Err e) old new = DriverHasNoMemory e old.home old.shards new.home new.shards ⊎ IsStoppedAmong K alone os old new e

-- the fault had its cause as the nodes stood when it came, from where they have gone on
pub record WasCaused (K : Shape) (logs shards : ℕ → Sight) (e : LaneFault) : Type 0 where
  pub logs_then : ℕ → Sight
  pub shards_then : ℕ → Sight
  pub logs_on : (n : ℕ) → HasGoneOn (logs_then n) (logs n)
  pub shards_on : (n : ℕ) → HasGoneOn (shards_then n) (shards n)
  pub cause : IsCausedFault K logs_then shards_then e

-- what calls keep of the ports of open lanes: they go to the same nodes, and where no other lane's records come between them, the coordinator's lanes
-- that are not listed are as before
pub record KeepsListedPorts {S L G : Type 0} (log : LogGhosts L) (set : SetGhosts S G) (os : List OpenLane) (old new : Ports S L) : Type 0 where
  pub to_log : KeepsLog log.at log.header log.count log.sights log.faults log.holds old.log new.log
  pub to_shards : KeepsShards set.count set.sights set.faults set.holds set.serves old.shards new.shards
  pub others : log.alone ≡ true → KeepsUnlisted (log.header old.log) os (log.phase old.log) (log.phase new.log) (log.open_txs old.log)
      (log.open_txs new.log)

-- a lane's batch is kept behind those before it, or its fault, where none came before
abbrev pub KeepsResumed : List ResumedBatch → Option LaneFault → Result ResumedBatch LaneFault → List ResumedBatch → Option LaneFault → Type 0
KeepsResumed before (Some f) (Ok r) after now = (after ≡ before ++ r ∷ []) × (now ≡ Some f)
KeepsResumed before None (Ok r) after now = (after ≡ before ++ r ∷ []) × (now ≡ None)
KeepsResumed before (Some f) (Err e) after now = (after ≡ before) × (now ≡ Some f)
KeepsResumed before None (Err e) after now = (after ≡ before) × (now ≡ Some e)
