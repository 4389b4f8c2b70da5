use Rattle.std.proofs.Common.{arith}
use Rattle.record_log.proofs.Measures.{compact_long}
use Rattle.record_log.proofs.measure.CompactTxMeasure.measure.Goals as goal

pub returns : goal.returns
returns c = grind (arith, compact_long c.args.self.now)
