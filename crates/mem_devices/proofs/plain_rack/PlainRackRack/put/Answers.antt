use Rattle.std.proofs.Common.{◌≡◌, ◌∙◌, Option, Some, sym, ap, subst, refl, arith}
use Rattle.std.specs.Prelude.{IfSome}
use Rattle.mem_devices.specs.declared.plain_disk.PlainDisk.{PlainDisk}
use Rattle.mem_devices.specs.Places.{disk_in, HasNoDiskOut, IsOut}
use Rattle.mem_devices.proofs.Places.{set_elsewhere, put_in_place}
use Rattle.mem_devices.proofs.plain_rack.PlainRackRack.put.Goals as goal

pub returns-clause-disk : goal.returns-clause-disk
returns-clause-disk c =
    let is = put_in_place c.args.self.now.places.items c.node.inside.0 c.args.node c.args.disk c.node.view_is c.requires in
    subst (λ (p : Option (Option PlainDisk)). IfSome (disk_in p) (λ now. now ≡ c.args.disk)) (sym is) refl

pub returns-clause-back : goal.returns-clause-back
returns-clause-back c = subst HasNoDiskOut (sym (put_in_place c.args.self.now.places.items c.node.inside.0 c.args.node c.args.disk c.node.view_is
    c.requires)) tt

pub returns-clause-others : goal.returns-clause-others
returns-clause-others c = λ n other. ap disk_in (set_elsewhere c.args.self.now.places.items c.node.inside.0 (Some c.args.disk) n
    (λ same. other (same ∙ c.node.view_is)))

pub returns-clause-others_in : goal.returns-clause-others_in
returns-clause-others_in c = λ n other is. subst HasNoDiskOut
    (sym (set_elsewhere c.args.self.now.places.items c.node.inside.0 (Some c.args.disk) n (λ same. other (same ∙ c.node.view_is)))) is

pub returns-clause-others_out : goal.returns-clause-others_out
returns-clause-others_out c = λ n k other is. subst IsOut
    (sym (set_elsewhere c.args.self.now.places.items c.node.inside.0 (Some c.args.disk) n (λ same. other (same ∙ c.node.view_is)))) is

pub returns-clause-later : goal.returns-clause-later
returns-clause-later c = λ n. omega arith
