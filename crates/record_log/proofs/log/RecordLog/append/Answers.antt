use Rattle.std.proofs.Common.{◌+◌, arith}
use Rattle.record_log.proofs.log.RecordLog.append.Goals as goal

pub returns-in-Ok-clause-room : goal.returns-in-Ok-clause-room
returns-in-Ok-clause-room g c = λ count bytes room. c.keep.ensures.room count bytes (c.write.ensures.keeps (count + 1) bytes room)

pub returns-in-Err-clause-room : goal.returns-in-Err-clause-room
returns-in-Err-clause-room g c = λ count bytes room.
    let kept = c.write.ensures.keeps (count + 1) bytes room in
    record { records = omega (arith, kept.records); body = kept.body; row = kept.row }
