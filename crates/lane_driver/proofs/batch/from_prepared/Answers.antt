use Rattle.std.proofs.Common.{◌∙◌, refl, sym, ap, length, map, inr, ◌≤◌, subst}
use Rattle.lane_laws.specs.Calls.{lock_call_of}
use Rattle.lane_laws.specs.Answers.{LockAnswer}
use Rattle.lane_driver.proofs.Turning.{turn_locked, turn_times, turn_committed, lock_stops, decide_stops, commit_stops}
use Rattle.std.proofs.lemmas.List.{length-map}
use Rattle.lane_driver.proofs.Rooming.{lock_shards, lock_sizes, later_room}
use Rattle.cbdc_model.specs.Calls.{IsLockCall}
use Rattle.lane_driver.proofs.Fitting.{locks_ready, calls_kept, ledger_kept, others_on}
use Rattle.lane_driver.proofs.Wanting.{lock_want, decide_free}
use Rattle.lane_driver.proofs.Causing.{log_fault, decide_caused}
use Rattle.lane_driver.proofs.Serving.{locks_own, locks_served}
use Rattle.lane_driver.proofs.Keeping.{log_same, log_on, shards_on}
use Rattle.cbdc_model.specs.Records.{Shape, Header}
use Rattle.lane_driver.specs.Told.{IsLane, AreReplies}
use Rattle.lane_driver.proofs.Filling.{filled_fits}
use Rattle.lane_driver.proofs.batch.from_prepared.Goals as goal

pub lock_phase-requires-clause-shards : goal.lock_phase-requires-clause-shards
lock_phase-requires-clause-shards g c =
    lock_shards c.args.batch.now c.args.cause _ _ refl c.args.room.parts _ (c.deref.ensures.value ∙ c.lock_calls.ensures) c.requires.room.parts

pub lock_phase-requires-clause-calls : goal.lock_phase-requires-clause-calls
lock_phase-requires-clause-calls g c =
    locks_ready c.args.shape.now (g.S.PortSet.sights c.args.ports.now.shards) c.requires.ledger c.args.batch.now c.args.cause c.requires.batch
    c.requires.cause c.args.room.parts _ (c.deref.ensures.value ∙ c.lock_calls.ensures) c.requires.room.parts c.requires.parts

pub lock_again-requires-clause-shards : goal.lock_again-requires-clause-shards
lock_again-requires-clause-shards g c =
    lock_shards c.args.batch.now c.args.cause _ _ (c.in-Ok.ensures.keeps.count_same ∙ c.requires.count) c.args.room.parts _
    (c.deref-2.ensures.value ∙ c.lock_calls.ensures) c.requires.room.parts

pub lock_again-requires-clause-calls : goal.lock_again-requires-clause-calls
lock_again-requires-clause-calls g c =
    calls_kept IsLockCall (g.S.PortSet.sights c.args.ports.now.shards) (g.S.PortSet.sights c.lock_phase.new.shards) c.in-Ok.ensures.keeps.nodes
    c.deref-2.result.now (locks_ready c.args.shape.now (g.S.PortSet.sights c.args.ports.now.shards) c.requires.ledger c.args.batch.now
    c.args.cause c.requires.batch c.requires.cause c.args.room.parts _ (c.deref-2.ensures.value ∙ c.lock_calls.ensures) c.requires.room.parts
    c.requires.parts)

pub from_committed-requires-clause-shards : goal.from_committed-requires-clause-shards
from_committed-requires-clause-shards g c =
    lock_shards c.args.batch.now c.args.cause _ _ refl c.args.room.parts _ (c.deref-3.ensures.value ∙ c.lock_calls.ensures) c.requires.room.parts

pub from_committed-requires-clause-locks : goal.from_committed-requires-clause-locks
from_committed-requires-clause-locks g c =
    calls_kept IsLockCall (g.S.PortSet.sights c.args.ports.now.shards) (g.S.PortSet.sights c.lock_again.new.shards)
    (shards_on c.in-Ok.ensures.keeps c.lock_again.ensures.keeps).nodes c.deref-3.result.now
    (locks_ready c.args.shape.now (g.S.PortSet.sights c.args.ports.now.shards) c.requires.ledger c.args.batch.now c.args.cause c.requires.batch
    c.requires.cause c.args.room.parts _ (c.deref-3.ensures.value ∙ c.lock_calls.ensures) c.requires.room.parts c.requires.parts)

pub from_committed-requires-clause-parts : goal.from_committed-requires-clause-parts
from_committed-requires-clause-parts g c =
    lock_sizes c.args.batch.now c.args.cause c.args.room.parts _ _ _ (c.deref-3.ensures.value ∙ c.lock_calls.ensures) c.requires.room.small
    (ap length c.deref-4.ensures.value ∙ c.in-Ok-decide.ensures.outcomes)

pub from_committed-requires-clause-room : goal.from_committed-requires-clause-room
from_committed-requires-clause-room g c =
    later_room _ _ _ _ c.args.room.later
    (ap length (c.deref-3.ensures.value ∙ c.lock_calls.ensures) ∙ length-map c.args.room.parts _)
    (ap length c.deref-4.ensures.value ∙ c.in-Ok-decide.ensures.outcomes) c.requires.room.later

pub from_committed-requires-clause-ledger : goal.from_committed-requires-clause-ledger
from_committed-requires-clause-ledger g c =
    ledger_kept c.args.shape.now (g.S.PortSet.sights c.args.ports.now.shards) (g.S.PortSet.sights c.lock_again.new.shards) c.requires.ledger
    (shards_on c.in-Ok.ensures.keeps c.lock_again.ensures.keeps).nodes

pub lock_phase-requires-clause-mine : goal.lock_phase-requires-clause-mine
lock_phase-requires-clause-mine g c = locks_served (g.S.PortSet.serves c.args.ports.now.shards) c.args.batch.now c.requires.mine c.args.cause
    c.args.room.parts _ (c.deref.ensures.value ∙ c.lock_calls.ensures)

pub lock_again-requires-clause-mine : goal.lock_again-requires-clause-mine
lock_again-requires-clause-mine g c =
    locks_served (g.S.PortSet.serves c.lock_phase.new.shards) c.args.batch.now (c.in-Ok.ensures.keeps.served _ c.requires.mine) c.args.cause
    c.args.room.parts _ (c.deref-2.ensures.value ∙ c.lock_calls.ensures)

pub from_committed-requires-clause-own : goal.from_committed-requires-clause-own
from_committed-requires-clause-own g c = locks_own c.args.batch.now c.args.cause c.args.room.parts _ (c.deref-3.ensures.value ∙ c.lock_calls.ensures)

pub returns-in-Ok-from_committed-clause-outcome : goal.returns-in-Ok-from_committed-clause-outcome
returns-in-Ok-from_committed-clause-outcome g c = record {
  replies = c.in-Ok.replies;
  after_lock = g.S.PortSet.sights c.lock_phase.new.shards;
  locks = turn_locked g.S.PortSet.alone g.L.LogPort.alone c.deref.result.now (map (lock_call_of c.args.batch.now c.args.cause) c.args.room.parts)
      (g.S.PortSet.sights c.args.ports.now.shards) (g.S.PortSet.sights c.lock_phase.new.shards) c.in-Ok.replies c.requires.same
      (c.deref.ensures.value ∙ c.lock_calls.ensures) c.in-Ok.ensures.told;
  before_decide = g.S.PortSet.sights c.lock_again.new.shards;
  locks_again = turn_times LockAnswer g.S.PortSet.alone g.L.LogPort.alone c.deref-2.result.now
      (map (lock_call_of c.args.batch.now c.args.cause) c.args.room.parts) c.args.repeats (g.S.PortSet.sights c.lock_phase.new.shards)
      (g.S.PortSet.sights c.lock_again.new.shards) c.requires.same (c.deref-2.ensures.value ∙ c.lock_calls.ensures) c.lock_again.ensures.told;
  log_committed = g.L.LogPort.sights c.decide.new.self (g.L.LogPort.at c.decide.new.self);
  committed = c.in-Ok-decide.stamp;
  decide = c.in-Ok-decide.ensures.told;
  outcomes = c.from_vec.ensures ∙ c.in-Ok-decide.ensures.written;
  rest = turn_committed g.L.LogPort.alone c.args.batch.now c.in-Ok-decide.stamp c.deref-4.result.now c.from_vec.result c.args.repeats
      c.deref-3.result.now (map (lock_call_of c.args.batch.now c.args.cause) c.args.room.parts)
      (g.L.LogPort.sights c.decide.new.self (g.L.LogPort.at c.decide.new.self))
      (g.L.LogPort.sights c.from_committed.new.ports.log (g.L.LogPort.at c.from_committed.new.ports.log))
      (g.S.PortSet.sights c.lock_again.new.shards) (g.S.PortSet.sights c.from_committed.new.ports.shards)
      (c.deref-4.ensures.value ∙ sym c.from_vec.ensures) (c.deref-3.ensures.value ∙ c.lock_calls.ensures) c.in-Ok-from_committed.ensures.outcome;
}

pub returns-in-Err-clause-outcome : goal.returns-in-Err-clause-outcome
returns-in-Err-clause-outcome g c = record {
  told_so = lock_stops c.args.shape.now g.S.PortSet.alone g.L.LogPort.alone c.args.batch.now c.args.cause c.args.repeats c.args.room.parts
      c.deref.result.now (g.L.LogPort.sights c.args.ports.now.log (g.L.LogPort.at c.args.ports.now.log))
      (g.S.PortSet.sights c.args.ports.now.shards) (g.S.PortSet.sights c.lock_phase.new.shards) c.in-Err.fault c.requires.same
      (c.deref.ensures.value ∙ c.lock_calls.ensures) c.in-Err.ensures.stopped;
  cause = inr (inr c.in-Err.ensures.fault);
  want = lock_want c.args.shape.now g.S.PortSet.alone g.L.LogPort.alone c.args.batch.now c.args.cause c.args.room.parts c.deref.result.now
      (g.L.LogPort.sights c.args.ports.now.log (g.L.LogPort.at c.args.ports.now.log))
      (g.S.PortSet.sights c.args.ports.now.shards) (g.S.PortSet.sights c.lock_phase.new.shards) c.in-Err.fault c.requires.same
      (c.deref.ensures.value ∙ c.lock_calls.ensures) c.in-Err.ensures.stopped;
}

pub returns-in-Err-decide-clause-outcome : goal.returns-in-Err-decide-clause-outcome
returns-in-Err-decide-clause-outcome g c = record {
  told_so = decide_stops c.args.shape.now g.S.PortSet.alone g.L.LogPort.alone c.args.batch.now c.args.cause c.args.repeats c.in-Ok.replies
      c.args.room.parts c.deref.result.now c.deref-2.result.now (g.L.LogPort.sights c.args.ports.now.log (g.L.LogPort.at c.args.ports.now.log))
      (g.L.LogPort.sights c.decide.new.self (g.L.LogPort.at c.decide.new.self)) (g.S.PortSet.sights c.args.ports.now.shards)
      (g.S.PortSet.sights c.lock_phase.new.shards) (g.S.PortSet.sights c.lock_again.new.shards) c.requires.same
      (c.deref.ensures.value ∙ c.lock_calls.ensures)
      (c.deref-2.ensures.value ∙ c.lock_calls.ensures) c.in-Ok.ensures.told c.lock_again.ensures.told c.home.result c.in-Err-decide.fault
      c.home.ensures c.in-Err-decide.ensures.told;
  cause = log_fault c.args.shape.now c.args.batch.now.lane (g.L.LogPort.at c.decide.new.self) (g.L.LogPort.sights c.decide.new.self)
      (g.S.PortSet.sights c.lock_again.new.shards) c.home.result c.in-Err-decide.fault c.requires.batch.0
      (c.in-Err-decide.ensures.keeps.at_same ∙ c.requires.at) c.home.ensures
      (decide_caused c.in-Err-decide.fault (g.L.LogPort.sights c.decide.new.self (g.L.LogPort.at c.decide.new.self)) c.in-Err-decide.ensures.fault);
  want = λ w. absurd (decide_free c.in-Err-decide.fault (g.L.LogPort.sights c.decide.new.self (g.L.LogPort.at c.decide.new.self))
      c.in-Err-decide.ensures.fault w);
}

pub returns-clause-outcome : goal.returns-clause-outcome
returns-clause-outcome g c = record {
  told_so = commit_stops c.args.shape.now g.S.PortSet.alone g.L.LogPort.alone c.args.batch.now c.args.cause c.args.repeats c.in-Ok.replies
      c.args.room.parts c.deref.result.now c.deref-2.result.now (g.L.LogPort.sights c.args.ports.now.log (g.L.LogPort.at c.args.ports.now.log))
      (g.L.LogPort.sights c.decide.new.self (g.L.LogPort.at c.decide.new.self)) (g.S.PortSet.sights c.args.ports.now.shards)
      (g.S.PortSet.sights c.lock_phase.new.shards) (g.S.PortSet.sights c.lock_again.new.shards) c.requires.same
      (c.deref.ensures.value ∙ c.lock_calls.ensures)
      (c.deref-2.ensures.value ∙ c.lock_calls.ensures) c.in-Ok.ensures.told c.lock_again.ensures.told c.in-Ok-decide.stamp c.deref-4.result.now
      (g.L.LogPort.sights c.from_committed.new.ports.log (g.L.LogPort.at c.from_committed.new.ports.log))
      (g.S.PortSet.sights c.from_committed.new.ports.shards)
      c.in-Err-from_committed.fault.node c.in-Err-from_committed.fault.fault c.deref-3.result.now (c.deref-3.ensures.value ∙ c.lock_calls.ensures)
      c.in-Ok-decide.ensures.told (c.deref-4.ensures.value ∙ c.in-Ok-decide.ensures.written) c.in-Err-from_committed.ensures.outcome.told_so;
  cause = c.in-Err-from_committed.ensures.outcome.cause;
  want = λ w. absurd (c.in-Err-from_committed.ensures.outcome.want w);
}

pub returns-in-Err-clause-keeps : goal.returns-in-Err-clause-keeps
returns-in-Err-clause-keeps g c = record {
  to_log = log_same c.args.ports.now.log;
  to_shards = c.in-Err.ensures.keeps;
  others = λ quiet l is ne. (refl, refl);
}

pub returns-in-Err-decide-clause-keeps : goal.returns-in-Err-decide-clause-keeps
returns-in-Err-decide-clause-keeps g c = record {
  to_log = c.in-Err-decide.ensures.keeps;
  to_shards = shards_on c.in-Ok.ensures.keeps c.lock_again.ensures.keeps;
  others = c.in-Err-decide.ensures.others;
}

pub returns-in-Ok-from_committed-clause-keeps : goal.returns-in-Ok-from_committed-clause-keeps
returns-in-Ok-from_committed-clause-keeps g c = record {
  to_log = log_on c.in-Ok-decide.ensures.keeps c.in-Ok-from_committed.ensures.keeps.to_log;
  to_shards = shards_on (shards_on c.in-Ok.ensures.keeps c.lock_again.ensures.keeps) c.in-Ok-from_committed.ensures.keeps.to_shards;
  others = λ quiet. others_on _ _ _ _ _ _ _ _ _ c.in-Ok-decide.ensures.keeps.header_same (c.in-Ok-decide.ensures.others quiet)
      (c.in-Ok-from_committed.ensures.keeps.others quiet);
}

pub returns-clause-keeps : goal.returns-clause-keeps
returns-clause-keeps g c = record {
  to_log = log_on c.in-Ok-decide.ensures.keeps c.in-Err-from_committed.ensures.keeps.to_log;
  to_shards = shards_on (shards_on c.in-Ok.ensures.keeps c.lock_again.ensures.keeps) c.in-Err-from_committed.ensures.keeps.to_shards;
  others = λ quiet. others_on _ _ _ _ _ _ _ _ _ c.in-Ok-decide.ensures.keeps.header_same (c.in-Ok-decide.ensures.others quiet)
      (c.in-Err-from_committed.ensures.keeps.others quiet);
}

pub lock_phase-requires-clause-room : goal.lock_phase-requires-clause-room
lock_phase-requires-clause-room g c = filled_fits (lock_call_of c.args.batch.now c.args.cause) c.args.room.parts c.deref.result.now _
    (c.deref.ensures.value ∙ c.lock_calls.ensures) c.requires.room.replied

pub lock_phase-requires-clause-replies_room : goal.lock_phase-requires-clause-replies_room
lock_phase-requires-clause-replies_room g c = filled_fits (lock_call_of c.args.batch.now c.args.cause) c.args.room.parts c.deref.result.now _
    (c.deref.ensures.value ∙ c.lock_calls.ensures) c.requires.room.replies

pub lock_again-requires-clause-room : goal.lock_again-requires-clause-room
lock_again-requires-clause-room g c = filled_fits (lock_call_of c.args.batch.now c.args.cause) c.args.room.parts c.deref-2.result.now _
    (c.deref-2.ensures.value ∙ c.lock_calls.ensures) c.requires.room.again

pub decide-requires-clause-replies : goal.decide-requires-clause-replies
decide-requires-clause-replies g c = subst (λ (K : Shape). AreReplies K c.in-Ok.replies) (sym c.requires.shape) c.in-Ok.ensures.replies

pub from_committed-requires-clause-at : goal.from_committed-requires-clause-at
from_committed-requires-clause-at g c = c.in-Ok-decide.ensures.keeps.at_same ∙ c.requires.at

pub from_committed-requires-clause-home : goal.from_committed-requires-clause-home
from_committed-requires-clause-home g c = subst (λ (h : Header). IsLane h c.args.batch.now.lane) (sym c.in-Ok-decide.ensures.keeps.header_same)
    c.requires.home

pub from_committed-requires-clause-count : goal.from_committed-requires-clause-count
from_committed-requires-clause-count g c = (shards_on c.in-Ok.ensures.keeps c.lock_again.ensures.keeps).count_same ∙ c.requires.count

pub from_committed-requires-clause-mine : goal.from_committed-requires-clause-mine
from_committed-requires-clause-mine g c = (shards_on c.in-Ok.ensures.keeps c.lock_again.ensures.keeps).served _ c.requires.mine

pub from_committed-requires-clause-again : goal.from_committed-requires-clause-again
from_committed-requires-clause-again g c =
    subst (λ n. length c.deref-3.result.now ≤ n) (sym c.lock_again.ensures.capacity)
    (filled_fits (lock_call_of c.args.batch.now c.args.cause) c.args.room.parts c.deref-3.result.now _
    (c.deref-3.ensures.value ∙ c.lock_calls.ensures) c.requires.room.again)

pub returns-in-Ok-from_committed-clause-outcomes : goal.returns-in-Ok-from_committed-clause-outcomes
returns-in-Ok-from_committed-clause-outcomes g c = ap length c.from_vec.ensures ∙ c.in-Ok-decide.ensures.outcomes
