use Rattle.std.proofs.Common.{arith}
use Rattle.record_log.proofs.Measures.{answered_long}
use Rattle.record_log.proofs.measure.AnsweredMeasure.measure.Goals as goal

pub returns : goal.returns
returns c = grind (arith, answered_long c.args.self.now)
