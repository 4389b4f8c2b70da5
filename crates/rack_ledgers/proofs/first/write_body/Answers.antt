use Rattle.std.proofs.Common.{ℕ, [], subst}
use Rattle.gate_journal.specs.Stands.{HoldsRows}
use Rattle.gate_journal.specs.Shown.{disk_of}
use Rattle.rack_ledgers.proofs.Told.{told_some}
use Rattle.rack_ledgers.proofs.Firsts.{formatted}
use Rattle.rack_ledgers.proofs.first.write_body.Goals as goal

pub returns-in-Ok-clause-leaves : goal.returns-in-Ok-clause-leaves
returns-in-Ok-clause-leaves g c = λ some. told_some (g.D.Disk.content c.args.disk) _ (λ bytes is.
    formatted g.D.Disk.tells_past g.D.Disk.moment g.D.Disk.images_since g.D.Disk c.args.disk (disk_of c.in-Ok.journal) c.append_first.result.disk
    c.args.body.now
    (c.in-Ok.ensures.leaves some) (c.append_first.ensures.leaves
    (subst (λ (n : ℕ). HoldsRows (g.D.Disk.content (disk_of c.in-Ok.journal)) (g.D.Disk.images (disk_of c.in-Ok.journal)) n [])
    c.in-Ok.ensures.whole.1 (c.in-Ok.ensures.empty bytes is)))) some
