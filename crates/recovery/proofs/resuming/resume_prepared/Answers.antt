use Rattle.std.proofs.Common.{◌∙◌, refl, sym, ap, subst, length}
use Rattle.cbdc_types.specs.declared.batch.Phase.TheVariants.{Prepared}
use Rattle.cbdc_model.specs.Grammar.{HasSize, IsBatchOf}
use Rattle.lane_driver.specs.Showing.{lane_sights}
use Rattle.lane_driver.proofs.Fitting.{parts_fit}
use Rattle.recovery.specs.Open.{HasItsOutcomes}
use Rattle.recovery.proofs.Taking.{prepared_taken, prepared_outcomes, prepared_from, resume_granted}
use Rattle.recovery.proofs.resuming.resume_prepared.Goals as goal

pub from_prepared-requires-clause-parts : goal.from_prepared-requires-clause-parts
from_prepared-requires-clause-parts g c =
    parts_fit c.args.shape.now (g.S.PortSet.sights c.args.ports.now.shards) c.args.unfinished.now.txs c.args.room.parts c.requires.ledger
    (subst (λ K. HasSize K c.args.unfinished.now.txs) c.requires.shape c.requires.is_open.size) c.requires.is_open.limits c.requires.readied.parts

pub from_prepared-requires-clause-batch : goal.from_prepared-requires-clause-batch
from_prepared-requires-clause-batch g c = subst (λ K. IsBatchOf K c.args.unfinished.now.batch) c.requires.shape c.requires.is_open.batch

pub returns-in-Ok-clause-outcome : goal.returns-in-Ok-clause-outcome
returns-in-Ok-clause-outcome g c = record {
  taken = prepared_taken c.args.shape.now g.L.LogPort.alone c.args.unfinished.now
      (g.L.LogPort.sights c.args.ports.now.log (g.L.LogPort.at c.args.ports.now.log))
      (g.L.LogPort.sights c.from_prepared.new.ports.log (g.L.LogPort.at c.from_prepared.new.ports.log)) (g.S.PortSet.sights c.args.ports.now.shards)
      (g.S.PortSet.sights c.from_prepared.new.ports.shards) c.args.unfinished.now.txs refl c.args.room.parts c.requires.readied.parts 0
      c.in-Ok.outcomes c.requires.phase c.in-Ok.ensures.outcome c.requires.stands;
  resumed = record { batch = refl; phase_is = sym c.requires.phase; outcomes = c.in-Ok.ensures.outcomes ∙ ap length c.requires.is_open.txs };
  outcomes = subst (λ p. HasItsOutcomes p c.args.unfinished.now
      (g.L.LogPort.sights c.from_prepared.new.ports.log (g.L.LogPort.at c.from_prepared.new.ports.log)).seen
      (record { batch = c.args.unfinished.now.batch; phase = Prepared; outcomes = c.in-Ok.outcomes })) (sym c.requires.phase)
      (prepared_outcomes c.args.shape.now g.L.LogPort.alone c.args.unfinished.now
      (g.L.LogPort.sights c.args.ports.now.log (g.L.LogPort.at c.args.ports.now.log))
      (g.L.LogPort.sights c.from_prepared.new.ports.log (g.L.LogPort.at c.from_prepared.new.ports.log))
      (g.S.PortSet.sights c.args.ports.now.shards) (g.S.PortSet.sights c.from_prepared.new.ports.shards) c.args.unfinished.now.txs refl
      c.args.room.parts c.requires.readied.parts 0 c.in-Ok.outcomes c.requires.phase c.in-Ok.ensures.outcome c.requires.stands);
}

pub returns-in-Err-clause-outcome : goal.returns-in-Err-clause-outcome
returns-in-Err-clause-outcome g c = record {
  stands = c.requires.stands;
  parts = c.args.room.parts;
  are_parts = c.requires.readied.parts;
  stop = c.in-Err.stop;
  is_fault = c.lane_fault.ensures;
  stopped = prepared_from c.args.shape.now g.L.LogPort.alone c.args.unfinished.now c.args.room.parts c.requires.readied.parts
      (lane_sights g.L.LogPort g.S.PortSet c.args.ports.now) (lane_sights g.L.LogPort g.S.PortSet c.from_prepared.new.ports) c.in-Err.stop
      c.requires.phase c.in-Err.ensures.outcome;
}

pub lane_fault-requires : goal.lane_fault-requires
lane_fault-requires g c = resume_granted c.args.shape.now g.L.LogPort.alone c.args.unfinished.now c.args.room.parts c.requires.readied.parts
    (lane_sights g.L.LogPort g.S.PortSet c.args.ports.now) (lane_sights g.L.LogPort g.S.PortSet c.from_prepared.new.ports) c.in-Err.stop
    (prepared_from c.args.shape.now g.L.LogPort.alone c.args.unfinished.now c.args.room.parts c.requires.readied.parts
    (lane_sights g.L.LogPort g.S.PortSet c.args.ports.now) (lane_sights g.L.LogPort g.S.PortSet c.from_prepared.new.ports) c.in-Err.stop
    c.requires.phase c.in-Err.ensures.outcome) c.requires.stands
