use Rattle.std.proofs.Common.{◌∙◌, refl, sym, ap, subst, length, arith}
use Rattle.std.proofs.lemmas.Grind.{common_steps}
use Rattle.std.proofs.lemmas.List.{length-map}
use Rattle.cbdc_types.specs.declared.batch.Phase.TheVariants.{Committed}
use Rattle.cbdc_model.specs.Grammar.{HasSize, IsBatchOf}
use Rattle.lane_driver.specs.Showing.{lane_sights}
use Rattle.lane_driver.proofs.Fitting.{parts_fit, locks_ready}
use Rattle.lane_driver.proofs.Rooming.{lock_shards, lock_sizes, later_room}
use Rattle.lane_driver.proofs.Serving.{locks_own}
use Rattle.recovery.specs.Open.{HasOutcomes, HasItsOutcomes}
use Rattle.recovery.proofs.Taking.{committed_taken, committed_from, resume_granted}
use Rattle.recovery.proofs.resuming.resume_committed.Goals as goal

pub from_committed-requires-clause-shards : goal.from_committed-requires-clause-shards
from_committed-requires-clause-shards g c =
    lock_shards c.args.unfinished.now.batch c.args.unfinished.now.stamp _ _ refl c.args.room.parts _ (c.deref.ensures.value ∙ c.lock_calls.ensures)
    c.requires.readied.room_is.parts

pub from_committed-requires-clause-locks : goal.from_committed-requires-clause-locks
from_committed-requires-clause-locks g c =
    locks_ready c.args.shape.now (g.S.PortSet.sights c.args.ports.now.shards) c.requires.ledger c.args.unfinished.now.batch
    c.args.unfinished.now.stamp (subst (λ K. IsBatchOf K c.args.unfinished.now.batch) c.requires.shape c.requires.is_open.batch)
    c.requires.is_open.stamp c.args.room.parts _ (c.deref.ensures.value ∙ c.lock_calls.ensures) c.requires.readied.room_is.parts
    (parts_fit c.args.shape.now (g.S.PortSet.sights c.args.ports.now.shards) c.args.unfinished.now.txs c.args.room.parts c.requires.ledger
    (subst (λ K. HasSize K c.args.unfinished.now.txs) c.requires.shape c.requires.is_open.size) c.requires.is_open.limits
    c.requires.readied.parts)

pub from_committed-requires-clause-parts : goal.from_committed-requires-clause-parts
from_committed-requires-clause-parts g c =
    lock_sizes c.args.unfinished.now.batch c.args.unfinished.now.stamp c.args.room.parts _ _ _ (c.deref.ensures.value ∙ c.lock_calls.ensures)
    c.requires.readied.room_is.small
    (ap length c.as_slice.ensures ∙ (subst (λ p. HasOutcomes p (length c.args.unfinished.now.outcomes) (length c.args.unfinished.now.txs))
    c.requires.phase c.requires.is_open.outcomes))

pub from_committed-requires-clause-room : goal.from_committed-requires-clause-room
from_committed-requires-clause-room g c =
    later_room _ _ _ _ c.args.room.later
    (ap length (c.deref.ensures.value ∙ c.lock_calls.ensures) ∙ length-map c.args.room.parts _)
    (ap length c.as_slice.ensures ∙ (subst (λ p. HasOutcomes p (length c.args.unfinished.now.outcomes) (length c.args.unfinished.now.txs))
    c.requires.phase c.requires.is_open.outcomes)) c.requires.readied.room_is.later

pub from_committed-requires-clause-batch : goal.from_committed-requires-clause-batch
from_committed-requires-clause-batch g c = subst (λ K. IsBatchOf K c.args.unfinished.now.batch) c.requires.shape c.requires.is_open.batch

pub from_committed-requires-clause-own : goal.from_committed-requires-clause-own
from_committed-requires-clause-own g c = locks_own c.args.unfinished.now.batch c.args.unfinished.now.stamp c.args.room.parts _
    (c.deref.ensures.value ∙ c.lock_calls.ensures)

pub returns-in-Ok-clause-outcome : goal.returns-in-Ok-clause-outcome
returns-in-Ok-clause-outcome g c = record {
  taken = committed_taken c.args.shape.now g.L.LogPort.alone c.args.unfinished.now
      (g.L.LogPort.sights c.args.ports.now.log (g.L.LogPort.at c.args.ports.now.log))
      (g.L.LogPort.sights c.from_committed.new.ports.log (g.L.LogPort.at c.from_committed.new.ports.log))
      (g.S.PortSet.sights c.args.ports.now.shards) (g.S.PortSet.sights c.from_committed.new.ports.shards) c.args.unfinished.now.txs refl
      c.args.room.parts c.requires.readied.parts c.deref.result.now (c.deref.ensures.value ∙ c.lock_calls.ensures) 0 c.as_slice.result.now
      c.as_slice.ensures c.requires.phase c.in-Ok.ensures.outcome c.requires.stands;
  resumed = record {
    batch = refl;
    phase_is = sym c.requires.phase;
    outcomes = ap length c.requires.outcomes ∙ subst (λ p. HasOutcomes p (length c.args.unfinished.now.outcomes) (length c.args.unfinished.now.txs))
        c.requires.phase c.requires.is_open.outcomes;
  };
  outcomes = subst (λ p. HasItsOutcomes p c.args.unfinished.now
      (g.L.LogPort.sights c.from_committed.new.ports.log (g.L.LogPort.at c.from_committed.new.ports.log)).seen
      (record { batch = c.args.unfinished.now.batch; phase = Committed; outcomes = c.args.outcomes })) (sym c.requires.phase) c.requires.outcomes;
}

pub returns-clause-outcome : goal.returns-clause-outcome
returns-clause-outcome g c = record {
  stands = c.requires.stands;
  parts = c.args.room.parts;
  are_parts = c.requires.readied.parts;
  stop = c.in-Err.stop;
  is_fault = c.lane_fault.ensures;
  stopped = committed_from c.args.shape.now g.L.LogPort.alone c.args.unfinished.now c.args.room.parts c.requires.readied.parts
      (lane_sights g.L.LogPort g.S.PortSet c.args.ports.now) (lane_sights g.L.LogPort g.S.PortSet c.from_committed.new.ports) c.in-Err.stop
      c.deref.result.now (c.deref.ensures.value ∙ c.lock_calls.ensures) c.as_slice.result.now c.as_slice.ensures c.requires.phase
      c.in-Err.ensures.outcome;
}

pub lane_fault-requires : goal.lane_fault-requires
lane_fault-requires g c = resume_granted c.args.shape.now g.L.LogPort.alone c.args.unfinished.now c.args.room.parts c.requires.readied.parts
    (lane_sights g.L.LogPort g.S.PortSet c.args.ports.now) (lane_sights g.L.LogPort g.S.PortSet c.from_committed.new.ports) c.in-Err.stop
    (committed_from c.args.shape.now g.L.LogPort.alone c.args.unfinished.now c.args.room.parts c.requires.readied.parts
    (lane_sights g.L.LogPort g.S.PortSet c.args.ports.now) (lane_sights g.L.LogPort g.S.PortSet c.from_committed.new.ports) c.in-Err.stop
    c.deref.result.now (c.deref.ensures.value ∙ c.lock_calls.ensures) c.as_slice.result.now c.as_slice.ensures c.requires.phase
    c.in-Err.ensures.outcome) c.requires.stands

pub from_committed-requires-clause-again : goal.from_committed-requires-clause-again
from_committed-requires-clause-again g c = grind (arith, common_steps)
