use Rattle.std.proofs.Common.{arith}
use Rattle.record_log.proofs.Rows.{more, stop, at_place}
use Rattle.record_log.proofs.opening.later_records.Goals as goal

pub returns-in-Err-NotARecord-clause-read : goal.returns-in-Err-NotARecord-clause-read
returns-in-Err-NotARecord-clause-read c = (
  c.bodies.invariant.holds,
  stop c.args.header c.bodies.records.items c.bodies.at c.bodies.i c.args.bodies.now c.body-body.result.now c.bodies.invariant
      (omega (arith, c.bodies-test.true, c.len-i-end.ensures)) (at_place c.args.bodies.now c.bodies.i c.body-body.result.now c.body-body.ensures)
      (λ r is. rw c.in-Err-NotARecord.field-0-is at (c.in-Err-NotARecord.ensures.only r is)),
)

pub bodies-preserved : goal.bodies-preserved
bodies-preserved c =
    rw c.in-Ok-push.ensures.items (more c.args.header c.bodies.records.items c.bodies.at c.bodies.i c.row_size.result c.saturating_add-at.result
    c.args.bodies.now c.body-body.result.now c.in-Ok-read_record.record
    c.bodies.invariant (omega (arith, c.bodies-test.true, c.len-i-end.ensures))
    (at_place c.args.bodies.now c.bodies.i c.body-body.result.now c.body-body.ensures) c.in-Ok-read_record.ensures.found c.row_size.ensures
    c.saturating_add-at.ensures)
