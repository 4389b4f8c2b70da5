use Rattle.std.proofs.Common.{◌≡◌, ◌∙◌, ◌<◌, Option, Some, length, sym, ap, subst, refl, arith}
use Rattle.std.specs.Prelude.{IfSome}
use Rattle.mem_devices.specs.declared.plain_disk.PlainDisk.{PlainDisk}
use Rattle.mem_devices.specs.Places.{disk_in, HasNoDiskOut, IsOut}
use Rattle.mem_devices.proofs.Places.{set_elsewhere, set_there, read_at}
use Rattle.mem_devices.proofs.plain_rack.PlainRackRack.take.Goals as goal

pub returns-clause-disk : goal.returns-clause-disk
returns-clause-disk c =
    let places = c.args.self.now.places.items in
    let within : c.node.inside.0 < length places = omega arith in
    let place = read_at places places c.node.inside.0 c.args.node c.index_mut.result.now refl c.node.view_is within c.index_mut.ensures.value in
    let disk = sym c.take.ensures.value ∙ c.in-Some.is in
    subst (λ (p : Option (Option PlainDisk)). IfSome (disk_in p) (λ was. c.in-Some.disk ≡ was))
    (sym (place ∙ ap (λ (p : Option PlainDisk). Some p) disk)) refl

pub returns-clause-out : goal.returns-clause-out
returns-clause-out c = λ k le.
    let places = c.args.self.now.places.items in
    let within : c.node.inside.0 < length places = omega arith in
    let empty = set_there places c.node.inside.0 c.args.node c.take.new.self c.node.view_is within
    ∙ ap (λ (p : Option PlainDisk). Some p) c.take.ensures.after in
    subst IsOut (sym empty) tt

pub returns-clause-others : goal.returns-clause-others
returns-clause-others c = λ n other. ap disk_in (set_elsewhere c.args.self.now.places.items c.node.inside.0 c.take.new.self n
    (λ same. other (same ∙ c.node.view_is)))

pub returns-clause-others_in : goal.returns-clause-others_in
returns-clause-others_in c = λ n other is. subst HasNoDiskOut
    (sym (set_elsewhere c.args.self.now.places.items c.node.inside.0 c.take.new.self n (λ same. other (same ∙ c.node.view_is)))) is

pub returns-clause-others_out : goal.returns-clause-others_out
returns-clause-others_out c = λ n k other is. subst IsOut
    (sym (set_elsewhere c.args.self.now.places.items c.node.inside.0 c.take.new.self n (λ same. other (same ∙ c.node.view_is)))) is
