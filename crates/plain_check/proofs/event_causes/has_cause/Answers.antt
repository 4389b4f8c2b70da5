use Rattle.plain_check.proofs.event_causes.has_cause.Goals as goal

pub returns-in-Finish : goal.returns-in-Finish
returns-in-Finish c = rw c.in-Finish.is c.has_finish_cause.ensures
