use Rattle.std.proofs.Common.{◌∙◌, refl, map, inr, ◌≤◌, length, sym, subst}
use Rattle.lane_laws.specs.Calls.{forget_call_of}
use Rattle.lane_laws.specs.Answers.{ForgetAnswer}
use Rattle.lane_driver.proofs.Turning.{turn_stamped, turn_times, forget_stops, done_stops}
use Rattle.lane_driver.proofs.Rooming.{forget_shards}
use Rattle.lane_driver.proofs.Fitting.{forgets_ready, calls_kept}
use Rattle.cbdc_model.specs.Calls.{IsForgetCall}
use Rattle.lane_driver.proofs.Wanting.{told_free}
use Rattle.lane_driver.proofs.Causing.{log_fault, done_caused}
use Rattle.lane_driver.proofs.Serving.{forgets_served}
use Rattle.lane_driver.proofs.Keeping.{log_same, shards_on}
use Rattle.lane_driver.proofs.Filling.{filled_fits}
use Rattle.lane_driver.proofs.batch.from_discarded.Goals as goal

pub forget_phase-requires-clause-shards : goal.forget_phase-requires-clause-shards
forget_phase-requires-clause-shards g c =
    forget_shards c.args.batch.now c.args.cause _ _ refl c.args.locks.now _ (c.deref.ensures.value ∙ c.forget_calls.ensures) c.requires.shards

pub forget_phase-requires-clause-calls : goal.forget_phase-requires-clause-calls
forget_phase-requires-clause-calls g c =
    forgets_ready c.args.shape.now (g.S.PortSet.sights c.args.ports.now.shards) c.requires.ledger c.args.batch.now c.args.cause c.requires.batch
    c.requires.cause c.args.locks.now _ (c.deref.ensures.value ∙ c.forget_calls.ensures) c.requires.shards

pub forget_again-requires-clause-shards : goal.forget_again-requires-clause-shards
forget_again-requires-clause-shards g c =
    forget_shards c.args.batch.now c.args.cause _ _ (c.in-Ok.ensures.keeps.count_same ∙ c.requires.count) c.args.locks.now _
    (c.deref-2.ensures.value ∙ c.forget_calls.ensures) c.requires.shards

pub forget_again-requires-clause-calls : goal.forget_again-requires-clause-calls
forget_again-requires-clause-calls g c =
    calls_kept IsForgetCall (g.S.PortSet.sights c.args.ports.now.shards) (g.S.PortSet.sights c.forget_phase.new.shards) c.in-Ok.ensures.keeps.nodes
    c.deref-2.result.now (forgets_ready c.args.shape.now (g.S.PortSet.sights c.args.ports.now.shards) c.requires.ledger c.args.batch.now
    c.args.cause c.requires.batch c.requires.cause c.args.locks.now _ (c.deref-2.ensures.value ∙ c.forget_calls.ensures) c.requires.shards)

pub forget_phase-requires-clause-mine : goal.forget_phase-requires-clause-mine
forget_phase-requires-clause-mine g c = forgets_served (g.S.PortSet.serves c.args.ports.now.shards) c.args.batch.now c.requires.mine c.args.cause
    c.args.locks.now _ (c.deref.ensures.value ∙ c.forget_calls.ensures)

pub forget_again-requires-clause-mine : goal.forget_again-requires-clause-mine
forget_again-requires-clause-mine g c =
    forgets_served (g.S.PortSet.serves c.forget_phase.new.shards) c.args.batch.now (c.in-Ok.ensures.keeps.served _ c.requires.mine) c.args.cause
    c.args.locks.now _ (c.deref-2.ensures.value ∙ c.forget_calls.ensures)

pub returns-in-Ok-done-clause-outcome : goal.returns-in-Ok-done-clause-outcome
returns-in-Ok-done-clause-outcome g c = record {
  forgotten = c.in-Ok.stamp;
  forgets = turn_stamped ForgetAnswer g.S.PortSet.alone g.L.LogPort.alone c.deref.result.now
      (map (forget_call_of c.args.batch.now c.args.cause) c.args.locks.now) (g.S.PortSet.sights c.args.ports.now.shards)
      (g.S.PortSet.sights c.forget_phase.new.shards) c.in-Ok.stamp
      c.requires.same (c.deref.ensures.value ∙ c.forget_calls.ensures) c.in-Ok.ensures.told;
  after_forget = g.S.PortSet.sights c.forget_phase.new.shards;
  forgets_again = turn_times ForgetAnswer g.S.PortSet.alone g.L.LogPort.alone c.deref-2.result.now
      (map (forget_call_of c.args.batch.now c.args.cause) c.args.locks.now) c.args.repeats (g.S.PortSet.sights c.forget_phase.new.shards)
      (g.S.PortSet.sights c.forget_again.new.shards)
      c.requires.same (c.deref-2.ensures.value ∙ c.forget_calls.ensures) c.forget_again.ensures.told;
  ended = c.in-Ok-done.field-0;
  done = c.in-Ok-done.ensures.told;
}

pub returns-in-Err-clause-outcome : goal.returns-in-Err-clause-outcome
returns-in-Err-clause-outcome g c = record {
  told_so = forget_stops c.args.shape.now g.S.PortSet.alone g.L.LogPort.alone c.args.batch.now c.args.cause c.args.repeats c.args.locks.now
      c.deref.result.now (g.L.LogPort.sights c.args.ports.now.log (g.L.LogPort.at c.args.ports.now.log))
      (g.S.PortSet.sights c.args.ports.now.shards) (g.S.PortSet.sights c.forget_phase.new.shards) c.in-Err.fault c.requires.same
      (c.deref.ensures.value ∙ c.forget_calls.ensures) c.in-Err.ensures.stopped;
  cause = inr (inr c.in-Err.ensures.fault);
  want = c.in-Err.ensures.no_want;
}

pub returns-in-Err-done-clause-outcome : goal.returns-in-Err-done-clause-outcome
returns-in-Err-done-clause-outcome g c = record {
  told_so = done_stops c.args.shape.now g.S.PortSet.alone g.L.LogPort.alone c.args.batch.now c.args.cause c.args.repeats c.in-Ok.stamp
      c.args.locks.now c.deref.result.now c.deref-2.result.now (g.L.LogPort.sights c.args.ports.now.log (g.L.LogPort.at c.args.ports.now.log))
      (g.L.LogPort.sights c.done.new.self (g.L.LogPort.at c.done.new.self)) (g.S.PortSet.sights c.args.ports.now.shards)
      (g.S.PortSet.sights c.forget_phase.new.shards) (g.S.PortSet.sights c.forget_again.new.shards) c.home.result c.in-Err-done.fault
      c.requires.same (c.deref.ensures.value ∙ c.forget_calls.ensures)
      (c.deref-2.ensures.value ∙ c.forget_calls.ensures) c.home.ensures c.in-Ok.ensures.told c.forget_again.ensures.told c.in-Err-done.ensures.told;
  cause = log_fault c.args.shape.now c.args.batch.now.lane (g.L.LogPort.at c.done.new.self) (g.L.LogPort.sights c.done.new.self)
      (g.S.PortSet.sights c.forget_again.new.shards) c.home.result c.in-Err-done.fault c.requires.batch.0
      (c.in-Err-done.ensures.keeps.at_same ∙ c.requires.at) c.home.ensures
      (done_caused g.L.LogPort.alone c.args.batch.now.lane c.in-Ok.stamp
      (g.L.LogPort.sights c.args.ports.now.log (g.L.LogPort.at c.args.ports.now.log))
      (g.L.LogPort.sights c.done.new.self (g.L.LogPort.at c.done.new.self)) c.in-Err-done.fault c.in-Err-done.ensures.told);
  want = told_free c.in-Err-done.ensures.told;
}

pub returns-in-Err-clause-keeps : goal.returns-in-Err-clause-keeps
returns-in-Err-clause-keeps g c = record {
  to_log = log_same c.args.ports.now.log;
  to_shards = c.in-Err.ensures.keeps;
  others = λ quiet l is ne. (refl, refl);
}

pub returns-in-Ok-done-clause-keeps : goal.returns-in-Ok-done-clause-keeps
returns-in-Ok-done-clause-keeps g c = record {
  to_log = c.in-Ok-done.ensures.keeps;
  to_shards = shards_on c.in-Ok.ensures.keeps c.forget_again.ensures.keeps;
  others = c.in-Ok-done.ensures.others;
}

pub returns-in-Err-done-clause-keeps : goal.returns-in-Err-done-clause-keeps
returns-in-Err-done-clause-keeps g c = record {
  to_log = c.in-Err-done.ensures.keeps;
  to_shards = shards_on c.in-Ok.ensures.keeps c.forget_again.ensures.keeps;
  others = c.in-Err-done.ensures.others;
}

pub forget_phase-requires-clause-room : goal.forget_phase-requires-clause-room
forget_phase-requires-clause-room g c = filled_fits (forget_call_of c.args.batch.now c.args.cause) c.args.locks.now c.deref.result.now _
    (c.deref.ensures.value ∙ c.forget_calls.ensures) c.requires.answers

pub forget_again-requires-clause-room : goal.forget_again-requires-clause-room
forget_again-requires-clause-room g c =
    subst (λ n. length c.deref-2.result.now ≤ n) (sym c.in-Ok.ensures.capacity)
    (filled_fits (forget_call_of c.args.batch.now c.args.cause) c.args.locks.now c.deref-2.result.now _
    (c.deref-2.ensures.value ∙ c.forget_calls.ensures) c.requires.answers)

pub returns-in-Ok-done-clause-capacity : goal.returns-in-Ok-done-clause-capacity
returns-in-Ok-done-clause-capacity g c = c.forget_again.ensures.capacity ∙ c.in-Ok.ensures.capacity

pub returns-in-Err-done-clause-capacity : goal.returns-in-Err-done-clause-capacity
returns-in-Err-done-clause-capacity g c = c.forget_again.ensures.capacity ∙ c.in-Ok.ensures.capacity
