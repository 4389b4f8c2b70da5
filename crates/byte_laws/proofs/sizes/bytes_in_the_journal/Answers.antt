use Rattle.std.proofs.Common.{arith}
use Rattle.gate_journal.proofs.RowBytes.{length-row}
use Rattle.record_log.specs.Bodies.{body_of}
use Rattle.record_log.proofs.LogSizes.{size_small, size_is}
use Rattle.byte_laws.proofs.sizes.bytes_in_the_journal.Goals as goal

pub returns : goal.returns
returns c = λ is.
    omega (
      arith,
      c.size_of_record.ensures,
      size_small c.args.header.now c.args.next.now c.batch-limit.ensures.limits is,
      size_is c.args.header.now c.args.next.now c.batch-limit.ensures.limits is,
      length-row (body_of c.args.next.now),
    )
