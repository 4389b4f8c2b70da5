use Rattle.std.proofs.Common.{◌∙◌, refl, sym, ap, subst, length, arith}
use Rattle.std.proofs.lemmas.Grind.{common_steps}
use Rattle.cbdc_types.specs.declared.batch.Phase.TheVariants.{Discarded}
use Rattle.cbdc_model.specs.Grammar.{IsBatchOf}
use Rattle.lane_driver.specs.Showing.{lane_sights}
use Rattle.lane_driver.proofs.Rooming.{lock_shards}
use Rattle.recovery.specs.Open.{HasOutcomes, HasItsOutcomes}
use Rattle.recovery.proofs.Taking.{discarded_taken, discarded_from, resume_granted}
use Rattle.recovery.proofs.resuming.resume_discarded.Goals as goal

pub from_discarded-requires-clause-shards : goal.from_discarded-requires-clause-shards
from_discarded-requires-clause-shards g c =
    lock_shards c.args.unfinished.now.batch c.args.unfinished.now.stamp _ _ refl c.args.room.parts _ (c.deref.ensures.value ∙ c.lock_calls.ensures)
    c.requires.readied.room_is.parts

pub from_discarded-requires-clause-batch : goal.from_discarded-requires-clause-batch
from_discarded-requires-clause-batch g c = subst (λ K. IsBatchOf K c.args.unfinished.now.batch) c.requires.shape c.requires.is_open.batch

pub returns-in-Ok-clause-outcome : goal.returns-in-Ok-clause-outcome
returns-in-Ok-clause-outcome g c = record {
  taken = discarded_taken c.args.shape.now g.L.LogPort.alone c.args.unfinished.now
      (g.L.LogPort.sights c.args.ports.now.log (g.L.LogPort.at c.args.ports.now.log))
      (g.L.LogPort.sights c.from_discarded.new.ports.log (g.L.LogPort.at c.from_discarded.new.ports.log))
      (g.S.PortSet.sights c.args.ports.now.shards) (g.S.PortSet.sights c.from_discarded.new.ports.shards) c.args.unfinished.now.txs refl
      c.args.room.parts c.requires.readied.parts c.deref.result.now (c.deref.ensures.value ∙ c.lock_calls.ensures) c.requires.phase
      c.in-Ok.ensures.outcome c.requires.stands;
  resumed = record {
    batch = refl;
    phase_is = sym c.requires.phase;
    outcomes = ap length c.requires.outcomes ∙ subst (λ p. HasOutcomes p (length c.args.unfinished.now.outcomes) (length c.args.unfinished.now.txs))
        c.requires.phase c.requires.is_open.outcomes;
  };
  outcomes = subst (λ p. HasItsOutcomes p c.args.unfinished.now
      (g.L.LogPort.sights c.from_discarded.new.ports.log (g.L.LogPort.at c.from_discarded.new.ports.log)).seen
      (record { batch = c.args.unfinished.now.batch; phase = Discarded; outcomes = c.args.outcomes })) (sym c.requires.phase) c.requires.outcomes;
}

pub returns-clause-outcome : goal.returns-clause-outcome
returns-clause-outcome g c = record {
  stands = c.requires.stands;
  parts = c.args.room.parts;
  are_parts = c.requires.readied.parts;
  stop = c.in-Err.stop;
  is_fault = c.lane_fault.ensures;
  stopped = discarded_from c.args.shape.now g.L.LogPort.alone c.args.unfinished.now c.args.room.parts c.requires.readied.parts
      (lane_sights g.L.LogPort g.S.PortSet c.args.ports.now) (lane_sights g.L.LogPort g.S.PortSet c.from_discarded.new.ports) c.in-Err.stop
      c.deref.result.now (c.deref.ensures.value ∙ c.lock_calls.ensures) c.requires.phase c.in-Err.ensures.outcome;
}

pub lane_fault-requires : goal.lane_fault-requires
lane_fault-requires g c = resume_granted c.args.shape.now g.L.LogPort.alone c.args.unfinished.now c.args.room.parts c.requires.readied.parts
    (lane_sights g.L.LogPort g.S.PortSet c.args.ports.now) (lane_sights g.L.LogPort g.S.PortSet c.from_discarded.new.ports) c.in-Err.stop
    (discarded_from c.args.shape.now g.L.LogPort.alone c.args.unfinished.now c.args.room.parts c.requires.readied.parts
    (lane_sights g.L.LogPort g.S.PortSet c.args.ports.now) (lane_sights g.L.LogPort g.S.PortSet c.from_discarded.new.ports) c.in-Err.stop
    c.deref.result.now (c.deref.ensures.value ∙ c.lock_calls.ensures) c.requires.phase c.in-Err.ensures.outcome) c.requires.stands

pub from_discarded-requires-clause-answers : goal.from_discarded-requires-clause-answers
from_discarded-requires-clause-answers g c = grind (arith, common_steps)

pub from_discarded-requires-clause-room : goal.from_discarded-requires-clause-room
from_discarded-requires-clause-room g c = grind (arith, common_steps)
