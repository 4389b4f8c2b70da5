use Rattle.std.proofs.Common.{arith}
use Rattle.record_log.proofs.Measures.{taken_long}
use Rattle.record_log.proofs.measure.length_of_reply.Goals as goal

pub returns-in-Locked : goal.returns-in-Locked
returns-in-Locked c = rw c.in-Locked.is (omega (
  arith,
  taken_long c.in-Locked.x c.in-Locked.field-1,
  c.measure-in-Locked.ensures,
  c.saturating_add-in-Locked.ensures,
))
