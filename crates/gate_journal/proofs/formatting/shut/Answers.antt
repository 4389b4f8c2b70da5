use Rattle.gate_journal.proofs.Emptied.{shut_leaves, then_read}
use Rattle.gate_journal.specs.Formatting.{IsEmptied}
use Rattle.gate_journal.proofs.formatting.shut.Goals as goal

pub returns-in_err-write_at-clause-leaves : goal.returns-in_err-write_at-clause-leaves
returns-in_err-write_at-clause-leaves g c = λ file is durable first.
    shut_leaves g.D.Disk.tells_past g.D.Disk.moment g.D.Disk.images_since g.D.Disk.images c.args.disk.now c.write_at.new.self
    (g.met.D.Disk.only_now c.args.disk.now) c.write_at.ensures.time file durable first c.write_at.ensures.crash

pub returns-in_err-make_sure-clause-leaves : goal.returns-in_err-make_sure-clause-leaves
returns-in_err-make_sure-clause-leaves g c = λ file is durable first.
    let written = shut_leaves g.D.Disk.tells_past g.D.Disk.moment g.D.Disk.images_since g.D.Disk.images c.args.disk.now c.write_at.new.self
    (g.met.D.Disk.only_now c.args.disk.now) c.write_at.ensures.time file durable first c.write_at.ensures.crash in
    then_read g.D.Disk.tells_past g.D.Disk.moment g.D.Disk.images_since g.D.Disk.images c.args.disk.now c.write_at.new.self c.make_sure.new.disk
    (IsEmptied (g.D.Disk.images c.args.disk.now)) written c.make_sure.ensures.leaves

pub returns-clause-leaves : goal.returns-clause-leaves
returns-clause-leaves g c = λ file is durable first.
    let written = shut_leaves g.D.Disk.tells_past g.D.Disk.moment g.D.Disk.images_since g.D.Disk.images c.args.disk.now c.write_at.new.self
    (g.met.D.Disk.only_now c.args.disk.now) c.write_at.ensures.time file durable first c.write_at.ensures.crash in
    then_read g.D.Disk.tells_past g.D.Disk.moment g.D.Disk.images_since g.D.Disk.images c.args.disk.now c.write_at.new.self c.make_sure.new.disk
    (IsEmptied (g.D.Disk.images c.args.disk.now)) written c.make_sure.ensures.leaves
