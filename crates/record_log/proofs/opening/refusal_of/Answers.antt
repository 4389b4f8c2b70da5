use Rattle.record_log.proofs.Cuts.{no_row}
use Rattle.record_log.proofs.opening.refusal_of.Goals as goal

pub returns-in-NotReady-clause-refusal : goal.returns-in-NotReady-clause-refusal
returns-in-NotReady-clause-refusal c = λ bytes is. no_row bytes (rw c.in-NotReady.is at is)
