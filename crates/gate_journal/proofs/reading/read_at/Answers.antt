use Rattle.std.proofs.Common.{arith}
use Rattle.std.proofs.lemmas.Grind.{common_steps}
use Rattle.outside.proofs.Moments.{only_read}
use Rattle.gate_journal.proofs.reading.read_at.Goals as goal

pub returns-clause-leaves : goal.returns-clause-leaves
returns-clause-leaves g c = only_read g.D.Disk.tells_past g.D.Disk.moment g.D.Disk.images_since g.D.Disk.images c.args.disk.now c.read.new.self
    (g.met.D.Disk.only_now c.args.disk.now) c.read.ensures.time c.read.ensures.crash

pub returns-clause-bytes : goal.returns-clause-bytes
returns-clause-bytes g c = grind (arith, common_steps)
