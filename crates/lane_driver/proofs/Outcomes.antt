-- What follows of what a batch and a lane came to: what is left of them, the cause of their fault, and where memory ran out.
use Rattle.std.proofs.Common.{◌≡◌, ◌⊎◌, inl, inr, ℕ, ◌<◌, Bool, List, [], ◌∷◌, length, take, Err, refl, sym, subst}
use Rattle.cbdc_types.specs.declared.calls.NodeFault.{NodeFault}
use Rattle.cbdc_types.specs.declared.calls.NodeFault.TheVariants.{Memory}
use Rattle.cbdc_model.specs.Records.{Shape, Compact}
use Rattle.cbdc_model.specs.Slots.{slot}
use Rattle.cbdc_model.specs.Sights.{Sight}
use Rattle.lane_laws.specs.Batches.{Settled, BatchDone, BatchStopped, LaneSo, LaneStopped}
use Rattle.lane_laws.specs.Faults.{IsNoRefusal}
use Rattle.lane_laws.proofs.Whole.{batch_done}
use Rattle.lane_laws.proofs.Stops.{batch_stopped}
use Rattle.lane_laws.proofs.Laning.{lane_begins, lane_goes_on, lane_stops}
use Rattle.lane_driver.specs.declared.fault.Stop.{Stop}
use Rattle.lane_driver.specs.declared.fault.BatchReport.{BatchReport}
use Rattle.lane_driver.specs.declared.fault.LaneFault.{LaneFault}
use Rattle.lane_driver.specs.declared.fault.LaneFaultKind.TheVariants.{Memory as NoMemory}
use Rattle.lane_driver.specs.Stops.{IsLaneFaultOf, DriverHasNoMemory, IsLaneStopped}
use Rattle.lane_driver.specs.Causes.{IsCausedFault}
use Rattle.lane_driver.specs.Wanting.{IsBatchWant}
use Rattle.lane_driver.specs.Reports.{AreDone}
use Rattle.lane_driver.specs.Showing.{LaneSights}
use Rattle.lane_driver.specs.Outcomes.{IsBatchDone, IsBatchStop, IsFaultOfBatch, IsBatchEnd, LaneResult}
use Rattle.lane_driver.proofs.Wanting.{fault_want, fault_node}

-- where the driver ran out of memory that is its fault's cause
pub driver_caused : (K : Shape) (logs shards : ℕ → Sight) (e : LaneFault) → e ≡ record { node = 0; fault = NoMemory } → IsCausedFault K logs shards e
driver_caused K logs shards e is = (0, Memory, is, inl (refl, refl))

module _ (K : Shape) (alone : Bool) (lane : ℕ) (txs : List Compact) (repeats : ℕ) (old new : LaneSights) where
  -- a batch of a settled lane that was done: exactly its records were added, and the lane is settled again
  pub batch_did : (r : BatchReport) → IsBatchDone K alone lane txs repeats old new r → (k : ℕ) → Settled K lane k old.home old.shards
      → BatchDone K alone lane k txs old.home old.shards new.home new.shards r.batch r.outcomes
  batch_did r (parts, are, told) k st = batch_done K alone lane k txs repeats parts old.home new.home old.shards new.shards r.batch r.outcomes st are
      told

  -- one that stopped: what it left
  pub stop_left : (e : Stop) → IsBatchStop K alone lane txs repeats old new e → (k : ℕ) → Settled K lane k old.home old.shards
      → BatchStopped K alone lane txs old.home old.shards new.home new.shards e.node e.fault
  stop_left e (parts, are, stop) k st = batch_stopped K alone lane k txs repeats parts old.home new.home old.shards new.shards e.node e.fault st are
      stop.told_so

  -- no shard refused
  pub stop_granted : (e : Stop) → IsBatchStop K alone lane txs repeats old new e → (k : ℕ) → Settled K lane k old.home old.shards
      → IsNoRefusal e.fault
  stop_granted e stop k st = (stop_left e stop k st).granted

  pub batch_left : (e : LaneFault) → IsFaultOfBatch K alone lane txs repeats old new e → (k : ℕ) → Settled K lane k old.home old.shards
      → (n : ℕ) × (f : NodeFault) × IsLaneFaultOf e n f × BatchStopped K alone lane txs old.home old.shards new.home new.shards n f
  batch_left e (stop, is, left) k st = (stop.node, stop.fault, is, stop_left stop left k st)

  -- what its fault has its cause in
  pub batch_caused : (e : LaneFault) → IsFaultOfBatch K alone lane txs repeats old new e → IsCausedFault K new.logs new.shards e
  batch_caused e (stop, is, (parts, are, so)) = (stop.node, stop.fault, is, so.cause)

  -- where memory ran out: at its Prepare or at a Lock
  pub batch_want : (e : LaneFault) → IsFaultOfBatch K alone lane txs repeats old new e → e.fault ≡ NoMemory
      → IsBatchWant K alone lane txs old.home old.shards new.home new.shards e.node
  batch_want e (stop, is, (parts, are, so)) want =
      subst (λ n. IsBatchWant K alone lane txs old.home old.shards new.home new.shards n) (sym (fault_node e stop.node stop.fault is))
      (parts, are, so.want (fault_want e stop.node stop.fault is want))

  pub end_caused : (e : LaneFault) → IsBatchEnd K alone lane txs repeats old new e → IsCausedFault K new.logs new.shards e
  end_caused e (inl none) = driver_caused K new.logs new.shards e none.0
  end_caused e (inr stop) = batch_caused e stop

-- a lane that has done its batches up to a rest
pub lane_so : (K : Shape) (alone : Bool) (lane k : ℕ) (txs : List Compact) (log : Sight) (I : ℕ → Sight) → Settled K lane k log I
    → (reports : List BatchReport) (rest : List Compact) (log' : Sight) (J : ℕ → Sight)
    → AreDone K alone lane txs log I reports rest log' J → LaneSo K alone lane txs rest log I log' J
lane_so K alone lane k txs log I st [] rest log' J (all, same, shards_same) =
    subst (λ r. LaneSo K alone lane txs r log I log' J) (sym all)
    (subst (λ (X : ℕ → Sight). LaneSo K alone lane txs txs log I log' X) (sym shards_same)
    (subst (λ l. LaneSo K alone lane txs txs log I l I) (sym same) (lane_begins K alone lane k txs log I st)))
lane_so K alone lane k txs log I st (r ∷ older) rest log' J (before, between, shards_between, done, some, back, last) =
    subst (λ x. LaneSo K alone lane txs x log I log' J) (sym back)
    (lane_goes_on K alone lane txs before log between log' I shards_between J
    (lane_so K alone lane k txs log I st older before between shards_between done) (take K.batch before) r.batch r.outcomes some refl last)

module _ (K : Shape) (alone : Bool) (lane : ℕ) (txs : List Compact) (repeats : ℕ) (old new : LaneSights) (e : LaneFault) where
  -- a lane whose batch of the very next piece came to its end
  ended_left : (rest : List Compact) (between : LaneSights) → LaneSo K alone lane txs rest old.home old.shards between.home between.shards
      → 0 < length rest → IsBatchEnd K alone lane (take K.batch rest) repeats between new e
      → DriverHasNoMemory e old.home old.shards new.home new.shards
      ⊎ ((e ≡ record { node = 0; fault = NoMemory }) × (rest : List Compact) × (0 < length rest)
      × LaneSo K alone lane txs rest old.home old.shards new.home new.shards)
      ⊎ ((n : ℕ) × (f : NodeFault) × IsLaneFaultOf e n f × LaneStopped K alone lane txs old.home old.shards new.home new.shards n f)
  ended_left rest between so some (inl none) =
      inr (inl (
        none.0,
        rest,
        some,
        subst (λ (X : ℕ → Sight). LaneSo K alone lane txs rest old.home old.shards new.home X) (sym none.2)
            (subst (λ l. LaneSo K alone lane txs rest old.home old.shards l between.shards) (sym none.1) so),
      ))
  ended_left rest between so some (inr stop) =
      let s = batch_left K alone lane (take K.batch rest) repeats between new e stop (slot between.home.seen lane).number so.settled in
      inr (inr (
        s.0,
        s.1,
        s.2,
        lane_stops K alone lane txs rest old.home between.home new.home old.shards between.shards new.shards so (take K.batch rest) s.0 s.1 some refl
            s.3,
      ))

  -- a settled lane that stopped: its batches up to there are done, and what the last one left
  pub lane_left : LaneResult K alone lane txs repeats (Err e) old new → IsLaneStopped K alone lane txs old.home old.shards new.home new.shards e
  lane_left (inl none) k st = inl none
  lane_left (inr stop) k st =
      ended_left stop.rest stop.between (lane_so K alone lane k txs old.home old.shards st stop.reports stop.rest stop.between.home
      stop.between.shards stop.done) stop.left stop.ended

  -- what its fault has its cause in
  pub lane_caused : LaneResult K alone lane txs repeats (Err e) old new → IsCausedFault K new.logs new.shards e
  lane_caused (inl none) = driver_caused K new.logs new.shards e none.0
  lane_caused (inr stop) = end_caused K alone lane (take K.batch stop.rest) repeats stop.between new e stop.ended
