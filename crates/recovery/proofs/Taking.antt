-- What was told of a resumed batch, and what it comes to.
use Rattle.std.proofs.Common.{◌≡◌, ℕ, Bool, true, List, [], ◌∷◌, Some, map, refl, sym, ap, ◌∙◌, subst, arith}
use Rattle.cbdc_types.specs.declared.batch.OpenLane.{OpenLane}
use Rattle.cbdc_types.specs.declared.batch.Phase.{Phase as OpenPhase}
use Rattle.cbdc_types.specs.declared.batch.Phase.TheVariants.{Prepared, Committed, Discarded}
use Rattle.cbdc_types.specs.declared.calls.LockCall.{LockCall}
use Rattle.cbdc_types.specs.declared.calls.NodeFault.{NodeFault}
use Rattle.cbdc_model.specs.Slots.{Idle, InPrepare}
use Rattle.cbdc_model.specs.Records.{Shape, Batch, same_batch, Compact, Entry, Outcome, Record, record_of, outcomes_in, outcomes_of, Commit, Discard}
use Rattle.cbdc_model.specs.Records.{Done}
use Rattle.cbdc_model.specs.Sights.{Sight}
use Rattle.lane_laws.specs.Calls.{AreParts, AreLocks, lock_call_of}
use Rattle.lane_laws.specs.Traces.{ToldDiscarded, ToldCommitted, ToldPrepared, DiscardedStopped, CommittedStopped, PreparedStopped}
use Rattle.lane_laws.specs.Batches.{own}
use Rattle.lane_laws.specs.Resuming.{IsTakenUp, IsLeft}
use Rattle.lane_laws.specs.Faults.{IsNoRefusal}
use Rattle.lane_laws.proofs.Calls.{are_locks}
use Rattle.lane_laws.proofs.Own.{record_own}
use Rattle.lane_laws.proofs.Runs.{prepared_run}
use Rattle.lane_laws.proofs.Resumes.{takes_discarded, takes_committed, takes_prepared, leaves_discarded, leaves_committed, leaves_prepared}
use Rattle.lane_driver.specs.declared.fault.LaneFault.{LaneFault}
use Rattle.lane_driver.specs.declared.fault.Stop.{Stop}
use Rattle.lane_driver.specs.declared.fault.LaneFaultKind.TheVariants.{Memory as NoMemory}
use Rattle.lane_driver.specs.Causes.{IsCausedFault}
use Rattle.lane_driver.specs.Wanting.{IsLockWant}
use Rattle.lane_driver.specs.Showing.{LaneSights}
use Rattle.lane_driver.specs.Outcomes.{IsStop, TakesNone}
use Rattle.lane_driver.proofs.Wanting.{fault_want}
use Rattle.recovery.specs.Open.{IsBatchUnfinished, IsUnfinished, IsResumeStopped, IsToldFrom, TakesAtLock, IsResumeStop}

-- a batch's Commit under its Done and its Discard
commit_below : (b : Batch) (ended discarded committed : ℕ) (os : List Outcome) (J : List Record)
    → record_of 7 (Done ended b ∷ Discard discarded b ∷ Commit committed b os ∷ J) b ≡ Some (Commit committed b os)
commit_below b ended discarded committed os J = rw same refl
  where
    same : same_batch b b ≡ true
    same = grind arith

module _ (K : Shape) (alone : Bool) (o : OpenLane) (log log' : Sight) (I J : ℕ → Sight) (txs : List Compact) (txs_are : txs ≡ o.txs)
    (parts : List (ℕ × List Entry)) (are : AreParts K txs parts) where
  own_parts : AreParts K o.txs parts
  own_parts = subst (λ ts. AreParts K ts parts) txs_are are

  at_phase : (p : OpenPhase) → o.phase ≡ p → IsBatchUnfinished o.phase K o log I → IsBatchUnfinished p K o log I
  at_phase p e h = subst (λ q. IsBatchUnfinished q K o log I) e h

  pub prepared_taken : (n : ℕ) (os : List Outcome) → o.phase ≡ Prepared → ToldPrepared alone o.batch o.stamp n parts log log' I J os
      → IsBatchUnfinished o.phase K o log I → IsTakenUp K alone o.batch log I log' J
  prepared_taken n os e told h = takes_prepared K alone o.batch o.txs o.stamp log log' I J n parts os (at_phase Prepared e h) own_parts told

  in_prepare : InPrepare ≡ Idle → ⊥
  in_prepare i = let z : InPrepare ≡ Idle = i in cc

  -- the outcomes are those of the Commit that was written
  pub prepared_outcomes : (n : ℕ) (os : List Outcome) → o.phase ≡ Prepared → ToldPrepared alone o.batch o.stamp n parts log log' I J os
      → IsBatchUnfinished o.phase K o log I → os ≡ outcomes_of log'.seen o.batch
  prepared_outcomes n os e told h =
      let d = at_phase Prepared e h in
      let r = prepared_run K [] alone o.batch.lane o.batch.number d.is_open.home o.txs log log' I J o.stamp n parts os
      (record {
        prepare = d.is_open.prepare;
        open_number = d.is_open.number;
        busy = λ i. in_prepare (sym d.is_open.phase ∙ i);
        shape = d.is_open.shape;
      }) d.is_open.others own_parts told in
      sym (ap outcomes_in (record_own 7 o.batch log'.seen
      ∙ ap (λ L. record_of 7 L o.batch) (r.rest.log_own ∙ ap (λ L. Done r.rest.ended o.batch ∷ Discard r.rest.discarded o.batch ∷ L) r.commit.own_is)
      ∙ commit_below o.batch r.rest.ended r.rest.discarded r.committed os (own o.batch.lane log.seen)))

  module _ (locks : List (ℕ × LockCall)) (locks_are : locks ≡ map (lock_call_of o.batch o.stamp) parts) where
    own_locks : AreLocks K o.txs o.batch o.stamp locks
    own_locks = subst (λ cs. AreLocks K o.txs o.batch o.stamp cs) (sym locks_are) (are_locks K o.txs o.batch o.stamp parts own_parts)

    pub committed_taken : (n : ℕ) (os : List Outcome) → os ≡ o.outcomes → o.phase ≡ Committed
        → ToldCommitted alone o.batch o.stamp os n locks log log' I J → IsBatchUnfinished o.phase K o log I → IsTakenUp K alone o.batch log I log' J
    committed_taken n os os_are e told h =
        let d = at_phase Committed e h in
        takes_committed K alone o.batch o.txs d.0 log log' I J o.stamp o.stamp o.outcomes n locks d.1 own_locks
        (subst (λ qs. ToldCommitted alone o.batch o.stamp qs n locks log log' I J) os_are told)

    pub discarded_taken : o.phase ≡ Discarded → ToldDiscarded alone o.batch o.stamp 0 locks log log' I J → IsBatchUnfinished o.phase K o log I
        → IsTakenUp K alone o.batch log I log' J
    discarded_taken e told h = let d = at_phase Discarded e h in
        takes_discarded K alone o.batch o.txs d.0 log log' I J o.stamp o.stamp 0 locks d.1 own_locks told

-- where it stopped: what it left, by what was told of it from its phase on
pub told_left : (K : Shape) (alone : Bool) (o : OpenLane) (parts : List (ℕ × List Entry)) → AreParts K o.txs parts
    → (old new : LaneSights) (n : ℕ) (f : NodeFault) (p : OpenPhase) → IsToldFrom p K alone o parts old new n f
    → IsBatchUnfinished p K o old.home old.shards → IsLeft K alone o.batch old.home old.shards new.home new.shards n f
told_left K alone o parts are old new n f Prepared told h =
    leaves_prepared K alone o.batch o.txs o.stamp old.home new.home old.shards new.shards 0 parts n f h are told
told_left K alone o parts are old new n f Committed told h =
    leaves_committed K alone o.batch o.txs h.0 old.home new.home old.shards new.shards o.stamp o.stamp o.outcomes 0
    (map (lock_call_of o.batch o.stamp) parts) n f h.1 (are_locks K o.txs o.batch o.stamp parts are) told
told_left K alone o parts are old new n f Discarded told h =
    leaves_discarded K alone o.batch o.txs h.0 old.home new.home old.shards new.shards o.stamp o.stamp 0 (map (lock_call_of o.batch o.stamp) parts) n
    f h.1 (are_locks K o.txs o.batch o.stamp parts are) told

-- how it stopped, from the phase in which it stood
module _ (K : Shape) (alone : Bool) (o : OpenLane) (parts : List (ℕ × List Entry)) (are : AreParts K o.txs parts) (old new : LaneSights) (e : Stop)
  where
    abbrev pub StopsFrom : Type 0
    StopsFrom = IsStop K new (IsToldFrom o.phase K alone o parts old new) (TakesAtLock K alone o parts old new) e

    -- no shard refused
    pub resume_granted : StopsFrom → IsUnfinished K o old.home old.shards → IsNoRefusal e.fault
    resume_granted stop stands = (told_left K alone o parts are old new e.node e.fault o.phase stop.told_so stands).granted

    pub prepared_from : o.phase ≡ Prepared → IsStop K new (PreparedStopped K alone o.batch o.stamp 0 parts old.home new.home old.shards new.shards)
        (IsLockWant K alone o.batch o.stamp parts old.home new.home old.shards new.shards) e → StopsFrom
    prepared_from phase stop = record {
      told_so = subst (λ p. IsToldFrom p K alone o parts old new e.node e.fault) (sym phase) stop.told_so;
      cause = stop.cause;
      want = λ w. (phase, stop.want w);
    }

    module _ (locks : List (ℕ × LockCall)) (locks_are : locks ≡ map (lock_call_of o.batch o.stamp) parts) where
      pub committed_from : (os : List Outcome) → os ≡ o.outcomes → o.phase ≡ Committed
          → IsStop K new (CommittedStopped K alone o.batch o.stamp os 0 locks old.home new.home old.shards new.shards) TakesNone e → StopsFrom
      committed_from os os_are phase stop = record {
        told_so = subst (λ p. IsToldFrom p K alone o parts old new e.node e.fault) (sym phase)
            (subst (λ cs. CommittedStopped K alone o.batch o.stamp o.outcomes 0 cs old.home new.home old.shards new.shards e.node e.fault) locks_are
            (subst (λ qs. CommittedStopped K alone o.batch o.stamp qs 0 locks old.home new.home old.shards new.shards e.node e.fault) os_are
            stop.told_so));
        cause = stop.cause;
        want = λ w. absurd (stop.want w);
      }

      pub discarded_from : o.phase ≡ Discarded → IsStop K new
          (DiscardedStopped K alone o.batch o.stamp 0 locks old.home new.home old.shards new.shards) TakesNone e → StopsFrom
      discarded_from phase stop = record {
        told_so = subst (λ p. IsToldFrom p K alone o parts old new e.node e.fault) (sym phase)
            (subst (λ cs. DiscardedStopped K alone o.batch o.stamp 0 cs old.home new.home old.shards new.shards e.node e.fault) locks_are
            stop.told_so);
        cause = stop.cause;
        want = λ w. absurd (stop.want w);
      }

-- an open batch that stopped: what it left, and what its fault has its cause in
module _ (K : Shape) (alone : Bool) (o : OpenLane) (old new : LaneSights) (e : LaneFault) (stop : IsResumeStop K alone o old new e) where
  pub resume_left : IsResumeStopped K alone o old.home old.shards new.home new.shards e
  resume_left h = (
    stop.stop.node,
    stop.stop.fault,
    stop.is_fault,
    told_left K alone o stop.parts stop.are_parts old new stop.stop.node stop.stop.fault o.phase stop.stopped.told_so h,
  )

  pub resume_caused : IsCausedFault K new.logs new.shards e
  resume_caused = (stop.stop.node, stop.stop.fault, stop.is_fault, stop.stopped.cause)

  -- memory ran out only where it was prepared
  pub resume_want : e.fault ≡ NoMemory → TakesAtLock K alone o stop.parts old new stop.stop.node
  resume_want want = stop.stopped.want (fault_want e stop.stop.node stop.stop.fault stop.is_fault want)
