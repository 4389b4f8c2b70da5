use Rattle.std.proofs.Common.{arith}
use Rattle.record_log.proofs.Measures.{header_long}
use Rattle.record_log.proofs.measure.length_of_header.Goals as goal

pub returns : goal.returns
returns c = omega (arith, header_long c.args.h.now, c.measure.ensures, c.saturating_add.ensures)
