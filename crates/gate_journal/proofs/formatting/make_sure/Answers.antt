use Rattle.outside.proofs.Moments.{only_read}
use Rattle.gate_journal.proofs.formatting.make_sure.Goals as goal

pub returns-clause-leaves : goal.returns-clause-leaves
returns-clause-leaves g c = only_read g.D.Disk.tells_past g.D.Disk.moment g.D.Disk.images_since g.D.Disk.images c.args.disk.now c.sync.new.self
    (g.met.D.Disk.only_now c.args.disk.now) c.sync.ensures.time c.sync.ensures.crash
