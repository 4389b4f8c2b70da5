use Rattle.std.proofs.Common.{◌∙◌, arith}
use Rattle.std.proofs.lemmas.List.{take_all}
use Rattle.gate_journal.proofs.reading.contents.Goals as goal

pub returns-clause-bytes : goal.returns-clause-bytes
returns-clause-bytes g c = λ bytes is. c.in_ok-bytes.ensures.bytes bytes is
    ∙ take_all c.len-len.result bytes (omega (arith, g.met.D.Disk.sized c.args.disk.now bytes is, c.len-len.ensures))
