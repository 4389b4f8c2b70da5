use Rattle.std.proofs.Common.{arith}
use Rattle.record_log.proofs.Cuts.{cut_is, unread_is}
use Rattle.record_log.proofs.opening.cut_of.Goals as goal

pub returns-in-Ok-clause-cut : goal.returns-in-Ok-clause-cut
returns-in-Ok-clause-cut c = λ bytes breaks place some.
    cut_is c.in-Ok.read.header c.in-Ok.read.records c.in-Ok.read.cut c.args.damaged c.args.before.now bytes _ c.in-Ok.ensures.read.0
    c.in-Ok.ensures.read.1 breaks place (omega arith) c.cut_at.ensures.cut

pub returns-in-Err-clause-cut : goal.returns-in-Err-clause-cut
returns-in-Err-clause-cut c = λ bytes breaks place some.
    unread_is c.args.before.now bytes breaks.rest c.in-Err.fault c.in-Err.ensures.unread some breaks.parts breaks.short
