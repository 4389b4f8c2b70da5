use Rattle.std.proofs.Common.{◌∙◌, refl, map, inr, ◌≤◌, length, sym, subst}
use Rattle.lane_laws.specs.Calls.{finish_call_of, forget_call_of}
use Rattle.lane_laws.specs.Answers.{LockAnswer, FinishAnswer, ForgetAnswer}
use Rattle.lane_driver.proofs.Turning.{turn_stamped, turn_times, finish_stops, discard_stops, later_stops}
use Rattle.cbdc_model.specs.Calls.{IsLockCall, IsFinishCall, IsForgetCall}
use Rattle.lane_driver.proofs.Rooming.{finish_shards, forget_shards}
use Rattle.lane_driver.proofs.Fitting.{finishes_ready, forgets_ready, calls_kept, ledger_kept, others_on}
use Rattle.lane_driver.proofs.Wanting.{told_free}
use Rattle.lane_driver.proofs.Causing.{log_fault, discard_caused}
use Rattle.lane_driver.proofs.Serving.{own_served, finishes_served, forgets_served}
use Rattle.lane_driver.proofs.Keeping.{log_same, log_on, shards_on}
use Rattle.cbdc_model.specs.Records.{Header}
use Rattle.lane_driver.specs.Calls.{shard}
use Rattle.lane_driver.specs.Told.{IsLane, AreShards}
use Rattle.lane_driver.proofs.Filling.{filled_fits}
use Rattle.lane_driver.proofs.batch.from_committed.Goals as goal

pub finish_phase-requires-clause-shards : goal.finish_phase-requires-clause-shards
finish_phase-requires-clause-shards g c =
    finish_shards c.args.batch.now c.args.cause c.args.outcomes.now _ _ refl c.args.locks.now _ (c.deref.ensures.value ∙ c.finish_calls.ensures)
    c.requires.shards

pub finish_phase-requires-clause-calls : goal.finish_phase-requires-clause-calls
finish_phase-requires-clause-calls g c =
    finishes_ready c.args.shape.now (g.S.PortSet.sights c.args.ports.now.shards) c.requires.ledger c.args.batch.now c.args.cause c.requires.batch
    c.requires.cause c.args.outcomes.now c.args.locks.now _ (c.deref.ensures.value ∙ c.finish_calls.ensures) c.requires.shards c.requires.locks

pub finish_again-requires-clause-shards : goal.finish_again-requires-clause-shards
finish_again-requires-clause-shards g c =
    finish_shards c.args.batch.now c.args.cause c.args.outcomes.now _ _ (c.in-Ok.ensures.keeps.count_same ∙ c.requires.count) c.args.locks.now _
    (c.deref-2.ensures.value ∙ c.finish_calls.ensures) c.requires.shards

pub finish_again-requires-clause-calls : goal.finish_again-requires-clause-calls
finish_again-requires-clause-calls g c =
    calls_kept IsFinishCall (g.S.PortSet.sights c.args.ports.now.shards) (g.S.PortSet.sights c.finish_phase.new.shards) c.in-Ok.ensures.keeps.nodes
    c.deref-2.result.now (finishes_ready c.args.shape.now (g.S.PortSet.sights c.args.ports.now.shards) c.requires.ledger c.args.batch.now
    c.args.cause c.requires.batch c.requires.cause c.args.outcomes.now c.args.locks.now _ (c.deref-2.ensures.value ∙ c.finish_calls.ensures)
    c.requires.shards c.requires.locks)

pub finish_again-requires-2-clause-shards : goal.finish_again-requires-2-clause-shards
finish_again-requires-2-clause-shards g c =
    finish_shards c.args.batch.now c.args.cause c.args.outcomes.now _ _
    ((shards_on (shards_on (shards_on c.in-Ok.ensures.keeps c.finish_again.ensures.keeps) c.in-Ok-from_discarded.ensures.keeps.to_shards)
    c.lock_again.ensures.keeps).count_same ∙ c.requires.count) c.args.locks.now _ (c.deref-3.ensures.value ∙ c.finish_calls.ensures)
    c.requires.shards

pub finish_again-requires-2-clause-calls : goal.finish_again-requires-2-clause-calls
finish_again-requires-2-clause-calls g c =
    calls_kept IsFinishCall (g.S.PortSet.sights c.args.ports.now.shards) (g.S.PortSet.sights c.lock_again.new.shards)
    (shards_on (shards_on (shards_on c.in-Ok.ensures.keeps c.finish_again.ensures.keeps) c.in-Ok-from_discarded.ensures.keeps.to_shards)
    c.lock_again.ensures.keeps).nodes c.deref-3.result.now
    (finishes_ready c.args.shape.now (g.S.PortSet.sights c.args.ports.now.shards) c.requires.ledger c.args.batch.now c.args.cause
    c.requires.batch c.requires.cause c.args.outcomes.now c.args.locks.now _ (c.deref-3.ensures.value ∙ c.finish_calls.ensures) c.requires.shards
    c.requires.locks)

pub forget_again-requires-clause-shards : goal.forget_again-requires-clause-shards
forget_again-requires-clause-shards g c =
    forget_shards c.args.batch.now c.in-Ok-discard.stamp _ _
    ((shards_on (shards_on (shards_on (shards_on c.in-Ok.ensures.keeps c.finish_again.ensures.keeps)
    c.in-Ok-from_discarded.ensures.keeps.to_shards) c.lock_again.ensures.keeps) c.finish_again-2.ensures.keeps).count_same ∙ c.requires.count)
    c.args.locks.now _ (c.deref-4.ensures.value ∙ c.in-Ok-from_discarded.ensures.calls) c.requires.shards

pub forget_again-requires-clause-calls : goal.forget_again-requires-clause-calls
forget_again-requires-clause-calls g c =
    calls_kept IsForgetCall (g.S.PortSet.sights c.args.ports.now.shards) (g.S.PortSet.sights c.finish_again-2.new.shards)
    (shards_on (shards_on (shards_on (shards_on c.in-Ok.ensures.keeps c.finish_again.ensures.keeps)
    c.in-Ok-from_discarded.ensures.keeps.to_shards) c.lock_again.ensures.keeps) c.finish_again-2.ensures.keeps).nodes c.deref-4.result.now
    (forgets_ready c.args.shape.now (g.S.PortSet.sights c.args.ports.now.shards) c.requires.ledger c.args.batch.now c.in-Ok-discard.stamp
    c.requires.batch c.in-Ok-discard.ensures.stamp c.args.locks.now _ (c.deref-4.ensures.value ∙ c.in-Ok-from_discarded.ensures.calls)
    c.requires.shards)

pub from_discarded-requires-clause-ledger : goal.from_discarded-requires-clause-ledger
from_discarded-requires-clause-ledger g c = ledger_kept c.args.shape.now (g.S.PortSet.sights c.args.ports.now.shards)
    (g.S.PortSet.sights c.finish_again.new.shards) c.requires.ledger (shards_on c.in-Ok.ensures.keeps c.finish_again.ensures.keeps).nodes

pub lock_again-requires-clause-calls : goal.lock_again-requires-clause-calls
lock_again-requires-clause-calls g c = calls_kept IsLockCall (g.S.PortSet.sights c.args.ports.now.shards)
    (g.S.PortSet.sights c.from_discarded.new.ports.shards)
    (shards_on (shards_on c.in-Ok.ensures.keeps c.finish_again.ensures.keeps) c.in-Ok-from_discarded.ensures.keeps.to_shards).nodes c.args.locks.now
    c.requires.locks

pub finish_phase-requires-clause-mine : goal.finish_phase-requires-clause-mine
finish_phase-requires-clause-mine g c =
    finishes_served (g.S.PortSet.serves c.args.ports.now.shards) c.args.batch.now c.requires.mine c.args.cause c.args.outcomes.now c.args.locks.now _
    (c.deref.ensures.value ∙ c.finish_calls.ensures)

pub finish_again-requires-clause-mine : goal.finish_again-requires-clause-mine
finish_again-requires-clause-mine g c =
    finishes_served (g.S.PortSet.serves c.finish_phase.new.shards) c.args.batch.now (c.in-Ok.ensures.keeps.served _ c.requires.mine) c.args.cause
    c.args.outcomes.now c.args.locks.now _ (c.deref-2.ensures.value ∙ c.finish_calls.ensures)

pub from_discarded-requires-clause-mine : goal.from_discarded-requires-clause-mine
from_discarded-requires-clause-mine g c = (shards_on c.in-Ok.ensures.keeps c.finish_again.ensures.keeps).served _ c.requires.mine

pub lock_again-requires-clause-mine : goal.lock_again-requires-clause-mine
lock_again-requires-clause-mine g c = own_served (g.S.PortSet.serves c.from_discarded.new.ports.shards) c.args.batch.now
    ((shards_on (shards_on c.in-Ok.ensures.keeps c.finish_again.ensures.keeps) c.in-Ok-from_discarded.ensures.keeps.to_shards).served _
    c.requires.mine) c.args.locks.now c.requires.own

pub finish_again-requires-2-clause-mine : goal.finish_again-requires-2-clause-mine
finish_again-requires-2-clause-mine g c =
    finishes_served (g.S.PortSet.serves c.lock_again.new.shards) c.args.batch.now
    ((shards_on (shards_on (shards_on c.in-Ok.ensures.keeps c.finish_again.ensures.keeps) c.in-Ok-from_discarded.ensures.keeps.to_shards)
    c.lock_again.ensures.keeps).served _ c.requires.mine) c.args.cause c.args.outcomes.now c.args.locks.now _
    (c.deref-3.ensures.value ∙ c.finish_calls.ensures)

pub forget_again-requires-clause-mine : goal.forget_again-requires-clause-mine
forget_again-requires-clause-mine g c =
    forgets_served (g.S.PortSet.serves c.finish_again-2.new.shards) c.args.batch.now
    ((shards_on (shards_on (shards_on (shards_on c.in-Ok.ensures.keeps c.finish_again.ensures.keeps)
    c.in-Ok-from_discarded.ensures.keeps.to_shards) c.lock_again.ensures.keeps) c.finish_again-2.ensures.keeps).served _ c.requires.mine)
    c.in-Ok-discard.stamp c.args.locks.now _
    (c.deref-4.ensures.value ∙ c.in-Ok-from_discarded.ensures.calls)

pub returns-clause-outcome : goal.returns-clause-outcome
returns-clause-outcome g c = record {
  finished = c.in-Ok.stamp;
  after_finish = g.S.PortSet.sights c.finish_phase.new.shards;
  finishes = turn_stamped FinishAnswer g.S.PortSet.alone g.L.LogPort.alone c.deref.result.now
      (map (finish_call_of c.args.batch.now c.args.cause c.args.outcomes.now) c.args.locks.now) (g.S.PortSet.sights c.args.ports.now.shards)
      (g.S.PortSet.sights c.finish_phase.new.shards) c.in-Ok.stamp c.requires.same (c.deref.ensures.value ∙ c.finish_calls.ensures)
      c.in-Ok.ensures.told;
  before_discard = g.S.PortSet.sights c.finish_again.new.shards;
  finishes_again = turn_times FinishAnswer g.S.PortSet.alone g.L.LogPort.alone c.deref-2.result.now
      (map (finish_call_of c.args.batch.now c.args.cause c.args.outcomes.now) c.args.locks.now) c.args.repeats
      (g.S.PortSet.sights c.finish_phase.new.shards) (g.S.PortSet.sights c.finish_again.new.shards) c.requires.same
      (c.deref-2.ensures.value ∙ c.finish_calls.ensures) c.finish_again.ensures.told;
  log_discarded = g.L.LogPort.sights c.discard.new.self (g.L.LogPort.at c.discard.new.self);
  discarded = c.in-Ok-discard.stamp;
  discard = c.in-Ok-discard.ensures.told;
  after_done = g.S.PortSet.sights c.from_discarded.new.ports.shards;
  rest = c.in-Ok-from_discarded.ensures.outcome;
  after_locks = g.S.PortSet.sights c.lock_again.new.shards;
  locks_late = turn_times LockAnswer g.S.PortSet.alone g.L.LogPort.alone c.args.locks.now c.args.locks.now c.args.repeats
      (g.S.PortSet.sights c.from_discarded.new.ports.shards) (g.S.PortSet.sights c.lock_again.new.shards) c.requires.same refl
      c.lock_again.ensures.told;
  after_finishes = g.S.PortSet.sights c.finish_again-2.new.shards;
  finishes_late = turn_times FinishAnswer g.S.PortSet.alone g.L.LogPort.alone c.deref-3.result.now
      (map (finish_call_of c.args.batch.now c.args.cause c.args.outcomes.now) c.args.locks.now) c.args.repeats
      (g.S.PortSet.sights c.lock_again.new.shards) (g.S.PortSet.sights c.finish_again-2.new.shards) c.requires.same
      (c.deref-3.ensures.value ∙ c.finish_calls.ensures) c.finish_again-2.ensures.told;
  forgets_late = turn_times ForgetAnswer g.S.PortSet.alone g.L.LogPort.alone c.deref-4.result.now
      (map (forget_call_of c.args.batch.now c.in-Ok-discard.stamp) c.args.locks.now) c.args.repeats (g.S.PortSet.sights c.finish_again-2.new.shards)
      (g.S.PortSet.sights c.forget_again.new.shards) c.requires.same
      (c.deref-4.ensures.value ∙ c.in-Ok-from_discarded.ensures.calls) c.forget_again.ensures.told;
}

pub returns-in-Err-clause-outcome : goal.returns-in-Err-clause-outcome
returns-in-Err-clause-outcome g c = record {
  told_so = finish_stops c.args.shape.now g.S.PortSet.alone g.L.LogPort.alone c.args.batch.now c.args.cause c.args.outcomes.now c.args.repeats
      c.args.locks.now c.deref.result.now (g.L.LogPort.sights c.args.ports.now.log (g.L.LogPort.at c.args.ports.now.log))
      (g.S.PortSet.sights c.args.ports.now.shards) (g.S.PortSet.sights c.finish_phase.new.shards) c.in-Err.fault c.requires.same
      (c.deref.ensures.value ∙ c.finish_calls.ensures) c.in-Err.ensures.stopped;
  cause = inr (inr c.in-Err.ensures.fault);
  want = c.in-Err.ensures.no_want;
}

pub returns-in-Err-discard-clause-outcome : goal.returns-in-Err-discard-clause-outcome
returns-in-Err-discard-clause-outcome g c = record {
  told_so = discard_stops c.args.shape.now g.S.PortSet.alone g.L.LogPort.alone c.args.batch.now c.args.cause c.args.outcomes.now c.args.repeats
      c.in-Ok.stamp c.args.locks.now c.deref.result.now c.deref-2.result.now
      (g.L.LogPort.sights c.args.ports.now.log (g.L.LogPort.at c.args.ports.now.log))
      (g.L.LogPort.sights c.discard.new.self (g.L.LogPort.at c.discard.new.self)) (g.S.PortSet.sights c.args.ports.now.shards)
      (g.S.PortSet.sights c.finish_phase.new.shards) (g.S.PortSet.sights c.finish_again.new.shards) c.requires.same
      (c.deref.ensures.value ∙ c.finish_calls.ensures) (c.deref-2.ensures.value ∙ c.finish_calls.ensures) c.in-Ok.ensures.told
      c.finish_again.ensures.told c.home.result c.in-Err-discard.fault c.home.ensures c.in-Err-discard.ensures.told;
  cause = log_fault c.args.shape.now c.args.batch.now.lane (g.L.LogPort.at c.discard.new.self) (g.L.LogPort.sights c.discard.new.self)
      (g.S.PortSet.sights c.finish_again.new.shards) c.home.result c.in-Err-discard.fault c.requires.batch.0
      (c.in-Err-discard.ensures.keeps.at_same ∙ c.requires.at) c.home.ensures
      (discard_caused g.L.LogPort.alone c.args.batch.now.lane c.in-Ok.stamp
      (g.L.LogPort.sights c.args.ports.now.log (g.L.LogPort.at c.args.ports.now.log))
      (g.L.LogPort.sights c.discard.new.self (g.L.LogPort.at c.discard.new.self)) c.in-Err-discard.fault c.in-Err-discard.ensures.told);
  want = told_free c.in-Err-discard.ensures.told;
}

pub returns-in-Err-from_discarded-clause-outcome : goal.returns-in-Err-from_discarded-clause-outcome
returns-in-Err-from_discarded-clause-outcome g c = record {
  told_so = later_stops c.args.shape.now g.S.PortSet.alone g.L.LogPort.alone c.args.batch.now c.args.cause c.args.outcomes.now c.args.repeats
      c.in-Ok.stamp c.args.locks.now c.deref.result.now c.deref-2.result.now
      (g.L.LogPort.sights c.args.ports.now.log (g.L.LogPort.at c.args.ports.now.log))
      (g.L.LogPort.sights c.discard.new.self (g.L.LogPort.at c.discard.new.self)) (g.S.PortSet.sights c.args.ports.now.shards)
      (g.S.PortSet.sights c.finish_phase.new.shards) (g.S.PortSet.sights c.finish_again.new.shards) c.requires.same
      (c.deref.ensures.value ∙ c.finish_calls.ensures) (c.deref-2.ensures.value ∙ c.finish_calls.ensures) c.in-Ok.ensures.told
      c.finish_again.ensures.told c.in-Ok-discard.stamp
      (g.L.LogPort.sights c.from_discarded.new.ports.log (g.L.LogPort.at c.from_discarded.new.ports.log))
      (g.S.PortSet.sights c.from_discarded.new.ports.shards) c.in-Err-from_discarded.fault.node c.in-Err-from_discarded.fault.fault
      c.in-Ok-discard.ensures.told c.in-Err-from_discarded.ensures.outcome.told_so;
  cause = c.in-Err-from_discarded.ensures.outcome.cause;
  want = c.in-Err-from_discarded.ensures.outcome.want;
}

pub returns-in-Err-clause-keeps : goal.returns-in-Err-clause-keeps
returns-in-Err-clause-keeps g c = record {
  to_log = log_same c.args.ports.now.log;
  to_shards = c.in-Err.ensures.keeps;
  others = λ quiet l is ne. (refl, refl);
}

pub returns-in-Err-discard-clause-keeps : goal.returns-in-Err-discard-clause-keeps
returns-in-Err-discard-clause-keeps g c = record {
  to_log = c.in-Err-discard.ensures.keeps;
  to_shards = shards_on c.in-Ok.ensures.keeps c.finish_again.ensures.keeps;
  others = c.in-Err-discard.ensures.others;
}

pub returns-in-Err-from_discarded-clause-keeps : goal.returns-in-Err-from_discarded-clause-keeps
returns-in-Err-from_discarded-clause-keeps g c = record {
  to_log = log_on c.in-Ok-discard.ensures.keeps c.in-Err-from_discarded.ensures.keeps.to_log;
  to_shards = shards_on (shards_on c.in-Ok.ensures.keeps c.finish_again.ensures.keeps) c.in-Err-from_discarded.ensures.keeps.to_shards;
  others = λ quiet. others_on _ _ _ _ _ _ _ _ _ c.in-Ok-discard.ensures.keeps.header_same (c.in-Ok-discard.ensures.others quiet)
      (c.in-Err-from_discarded.ensures.keeps.others quiet);
}

pub returns-clause-keeps : goal.returns-clause-keeps
returns-clause-keeps g c = record {
  to_log = log_on c.in-Ok-discard.ensures.keeps c.in-Ok-from_discarded.ensures.keeps.to_log;
  to_shards = shards_on (shards_on (shards_on (shards_on (shards_on c.in-Ok.ensures.keeps c.finish_again.ensures.keeps)
      c.in-Ok-from_discarded.ensures.keeps.to_shards) c.lock_again.ensures.keeps) c.finish_again-2.ensures.keeps) c.forget_again.ensures.keeps;
  others = λ quiet. others_on _ _ _ _ _ _ _ _ _ c.in-Ok-discard.ensures.keeps.header_same (c.in-Ok-discard.ensures.others quiet)
      (c.in-Ok-from_discarded.ensures.keeps.others quiet);
}

pub finish_phase-requires-clause-room : goal.finish_phase-requires-clause-room
finish_phase-requires-clause-room g c = filled_fits (finish_call_of c.args.batch.now c.args.cause c.args.outcomes.now) c.args.locks.now
    c.deref.result.now _ (c.deref.ensures.value ∙ c.finish_calls.ensures) c.requires.room.stamped

pub finish_again-requires-clause-room : goal.finish_again-requires-clause-room
finish_again-requires-clause-room g c =
    subst (λ n. length c.deref-2.result.now ≤ n) (sym c.in-Ok.ensures.capacity)
    (filled_fits (finish_call_of c.args.batch.now c.args.cause c.args.outcomes.now) c.args.locks.now c.deref-2.result.now _
    (c.deref-2.ensures.value ∙ c.finish_calls.ensures) c.requires.room.stamped)

pub finish_again-requires-2-clause-room : goal.finish_again-requires-2-clause-room
finish_again-requires-2-clause-room g c =
    subst (λ n. length c.deref-3.result.now ≤ n) (sym
    (c.in-Ok-from_discarded.ensures.capacity ∙ c.finish_again.ensures.capacity ∙ c.in-Ok.ensures.capacity))
    (filled_fits (finish_call_of c.args.batch.now c.args.cause c.args.outcomes.now) c.args.locks.now c.deref-3.result.now _
    (c.deref-3.ensures.value ∙ c.finish_calls.ensures) c.requires.room.stamped)

pub forget_again-requires-clause-room : goal.forget_again-requires-clause-room
forget_again-requires-clause-room g c =
    subst (λ n. length c.deref-4.result.now ≤ n) (sym
    (c.finish_again-2.ensures.capacity ∙ c.in-Ok-from_discarded.ensures.capacity ∙ c.finish_again.ensures.capacity ∙ c.in-Ok.ensures.capacity))
    (filled_fits (forget_call_of c.args.batch.now c.in-Ok-discard.stamp) c.args.locks.now c.deref-4.result.now _
    (c.deref-4.ensures.value ∙ c.in-Ok-from_discarded.ensures.calls) c.requires.room.stamped)

pub from_discarded-requires-clause-at : goal.from_discarded-requires-clause-at
from_discarded-requires-clause-at g c = c.in-Ok-discard.ensures.keeps.at_same ∙ c.requires.at

pub from_discarded-requires-clause-home : goal.from_discarded-requires-clause-home
from_discarded-requires-clause-home g c = subst (λ (h : Header). IsLane h c.args.batch.now.lane) (sym c.in-Ok-discard.ensures.keeps.header_same)
    c.requires.home

pub from_discarded-requires-clause-count : goal.from_discarded-requires-clause-count
from_discarded-requires-clause-count g c = (shards_on c.in-Ok.ensures.keeps c.finish_again.ensures.keeps).count_same ∙ c.requires.count

pub from_discarded-requires-clause-answers : goal.from_discarded-requires-clause-answers
from_discarded-requires-clause-answers g c = subst (λ n. length c.args.locks.now ≤ n)
    (sym (c.finish_again.ensures.capacity ∙ c.in-Ok.ensures.capacity)) c.requires.room.stamped

pub lock_again-requires-clause-shards : goal.lock_again-requires-clause-shards
lock_again-requires-clause-shards g c = subst (λ n. AreShards shard n c.args.locks.now)
    (sym ((shards_on (shards_on c.in-Ok.ensures.keeps c.finish_again.ensures.keeps) c.in-Ok-from_discarded.ensures.keeps.to_shards).count_same
    ∙ c.requires.count)) c.requires.shards
