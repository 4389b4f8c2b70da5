use Rattle.std.proofs.Common.{inl, subst}
use Rattle.mirror_devices.specs.MirrorRacks.{mirror_at, plain_mirror}
use Rattle.rack_ledgers.specs.Audited.{IsAudited}
use Rattle.gen_command.proofs.generating.check_files.Goals as goal

pub returns-in-Ok-Sound-clause-did : goal.returns-in-Ok-Sound-clause-did
returns-in-Ok-Sound-clause-did g c =
    subst (λ v. IsAudited plain_mirror (mirror_at c.args.rack.now) c.args.mint.now c.args.handed.now v) c.in-Ok-Sound.field-0-is
    c.in-Ok-Sound.ensures.audited

pub returns-in-Ok-Unsound-clause-why : goal.returns-in-Ok-Unsound-clause-why
returns-in-Ok-Unsound-clause-why g c =
    inl (subst (λ v. IsAudited plain_mirror (mirror_at c.args.rack.now) c.args.mint.now c.args.handed.now v) c.in-Ok-Unsound.field-0-is
    c.in-Ok-Unsound.ensures.audited)
