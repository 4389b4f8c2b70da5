use Rattle.std.proofs.Common.{◌≡◌, ◌∙◌, ◌<◌, ℕ, Bool, true, nat_lt, if◌then◌else◌, Option, Some, length, sym, ap, subst, refl, arith}
use Rattle.std.specs.Prelude.{IfSome}
use Rattle.mirror_devices.specs.MirrorRacks.{PlainMirror}
use Rattle.mem_devices.specs.Places.{disk_in, HasNoDiskOut, IsOut}
use Rattle.mem_devices.proofs.Places.{set_elsewhere, set_there, read_at}
use Rattle.mirror_devices.proofs.Blank.{never_refused}
use Rattle.mirror_devices.proofs.mirror_rack.MirrorRackRack.take.Goals as goal

pub returns-clause-disk : goal.returns-clause-disk
returns-clause-disk c =
    let places = c.args.self.now.places.items in
    let within : c.node.inside.0 < length places = omega arith in
    let place = read_at places places c.node.inside.0 c.args.node c.index_mut.result.now refl c.node.view_is within c.index_mut.ensures.value in
    let disk = sym c.take.ensures.value ∙ c.in-Some.is in
    subst (λ (p : Option (Option PlainMirror)). IfSome (disk_in p) (λ was. c.in-Some.disk ≡ was))
    (sym (place ∙ ap (λ (p : Option PlainMirror). Some p) disk)) refl

pub returns-clause-out : goal.returns-clause-out
returns-clause-out c = λ k le.
    let places = c.args.self.now.places.items in
    let within : c.node.inside.0 < length places = omega arith in
    let empty = set_there places c.node.inside.0 c.args.node c.take.new.self c.node.view_is within
    ∙ ap (λ (p : Option PlainMirror). Some p) c.take.ensures.after in
    subst IsOut (sym empty) tt

pub returns-clause-others : goal.returns-clause-others
returns-clause-others c = λ n other. ap disk_in (set_elsewhere c.args.self.now.places.items c.node.inside.0 c.take.new.self n
    (λ same. other (same ∙ c.node.view_is)))

pub returns-clause-others_in : goal.returns-clause-others_in
returns-clause-others_in c = λ n other is. subst HasNoDiskOut
    (sym (set_elsewhere c.args.self.now.places.items c.node.inside.0 c.take.new.self n (λ same. other (same ∙ c.node.view_is)))) is

pub returns-clause-others_out : goal.returns-clause-others_out
returns-clause-others_out c = λ n k other is. subst IsOut
    (sym (set_elsewhere c.args.self.now.places.items c.node.inside.0 c.take.new.self n (λ same. other (same ∙ c.node.view_is)))) is

pub returns-clause-count : goal.returns-clause-count
returns-clause-count c =
    let places = c.args.self.now.places.items in
    let within : c.node.inside.0 < length places = omega arith in
    let low : c.args.node < 80 = omega (arith, within, c.args.self.now.whole, c.node.view_is) in
    let t : nat_lt c.args.node 80 ≡ true = grind (arith, low) in
    never_refused c.in-Some.disk ∙ sym (ap (λ (b : Bool). if b then 0 else c.args.self.now.misses) t)
