use Rattle.std.proofs.Common.{arith}
use Rattle.gate_journal.proofs.RowBytes.{length-row}
use Rattle.record_log.proofs.opening.row_size.Goals as goal

pub returns : goal.returns
returns c = omega (arith, length-row c.args.body.now, c.saturating_add.ensures)
