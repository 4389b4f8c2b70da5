use Rattle.std.proofs.Common.{◌≡◌, ◌<◌, ◌∙◌, ◌++◌, ◌∷◌, [], List, Option, Some, length, nat_lt, true, subst, sym, ap, arith}
use Rattle.std.proofs.lemmas.List.{length-append}
use Rattle.mem_devices.specs.declared.plain_disk.PlainDisk.{PlainDisk}
use Rattle.mem_devices.proofs.Filled.{AreFilled, IsBlank, none_filled, one_filled, all_in, filled_at}
use Rattle.mem_devices.proofs.plain_rack.PlainRack.new.Goals as goal

pub places-init : goal.places-init
places-init c = (
  ap length c.in_ok-places.ensures.items,
  subst (AreFilled (IsBlank c.args.nodes c.args.capacity)) (sym c.in_ok-places.ensures.items) (none_filled (IsBlank c.args.nodes c.args.capacity)),
)

pub places-preserved : goal.places-preserved
places-preserved c =
    let places : List (Option PlainDisk) = c.places.places.items in
    let many : length places ≡ c.places.node = c.places.invariant.0 in
    let room = λ (low : length places < c.args.nodes). (
    let inside : c.places.node < c.args.nodes = subst (λ k. k < c.args.nodes) many low in
    let t : nat_lt c.places.node c.args.nodes ≡ true = grind (arith, inside) in
    c.in_ok-disk.ensures.room t) in
    let filled = one_filled (IsBlank c.args.nodes c.args.capacity) places c.in_ok-disk.disk c.places.invariant.1 (c.in_ok-disk.ensures.empty, room) in
    let long = ap length c.in_ok-push.ensures.items in
    let more = length-append places (Some c.in_ok-disk.disk ∷ []) in
    (omega (arith, long, more, many), subst (AreFilled (IsBlank c.args.nodes c.args.capacity)) (sym c.in_ok-push.ensures.items) filled)

pub invariant_of-result : goal.invariant_of-result
invariant_of-result c = let many = c.places.invariant.0 in let past = c.places-test.false in let end = c.places.auto in
    record { whole = omega (arith, many, past, end) }

pub returns-clause-all : goal.returns-clause-all
returns-clause-all c = all_in (IsBlank c.args.nodes c.args.capacity) c.places.places.items c.places.invariant.1

pub returns-clause-empty : goal.returns-clause-empty
returns-clause-empty c n node low =
    let many = c.places.invariant.0 in
    let past = c.places-test.false in
    let at = filled_at (IsBlank c.args.nodes c.args.capacity) c.places.places.items c.places.invariant.1 n (omega (arith, low, many, past)) in
    (at.0, at.1, at.2.0, at.2.1 node)
