use Rattle.std.proofs.Common.{arith}
use Rattle.record_log.proofs.Measures.{lacks_long, blocked_long}
use Rattle.record_log.proofs.measure.OutcomeMeasure.measure.Goals as goal

pub returns-in-Missing : goal.returns-in-Missing
returns-in-Missing c = rw c.in-Missing.is (omega (arith, lacks_long c.in-Missing.field-0 c.in-Missing.x, c.measure.ensures, c.saturating_add.ensures))

pub returns-in-Locked : goal.returns-in-Locked
returns-in-Locked c = rw c.in-Locked.is (omega (
  arith,
  blocked_long c.in-Locked.field-0 c.in-Locked.x c.in-Locked.field-2,
  c.measure-in-Locked.ensures,
  c.saturating_add-in-Locked.ensures,
))
