use Rattle.std.proofs.Common.{[], ◌∙◌}
use Rattle.gate_journal.specs.Shown.{disk_of}
use Rattle.rack_ledgers.proofs.Firsts.{appended}
use Rattle.rack_ledgers.proofs.first.append_body.Goals as goal

pub returns-in-Ok-append-clause-leaves : goal.returns-in-Ok-append-clause-leaves
returns-in-Ok-append-clause-leaves g c = λ stands.
    appended g.D.Disk.tells_past g.D.Disk.moment g.D.Disk.images_since g.D.Disk (disk_of c.args.journal.now) (disk_of c.reserve.new.self)
    (disk_of c.append.new.self) _ c.args.body.now
    c.reserve.ensures.same.0 (c.reserve.ensures.same.1 ∙ c.requires.empty) (c.in-Ok-append.ensures.leaves []) stands

pub returns-in-Err-DiskFault-clause-leaves : goal.returns-in-Err-DiskFault-clause-leaves
returns-in-Err-DiskFault-clause-leaves g c = λ stands.
    appended g.D.Disk.tells_past g.D.Disk.moment g.D.Disk.images_since g.D.Disk (disk_of c.args.journal.now) (disk_of c.reserve.new.self)
    (disk_of c.append.new.self) _ c.args.body.now
    c.reserve.ensures.same.0 (c.reserve.ensures.same.1 ∙ c.requires.empty) (c.in-Err-DiskFault.ensures.leaves []) stands
