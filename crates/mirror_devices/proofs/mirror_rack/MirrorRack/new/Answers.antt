use Rattle.std.proofs.Common.{◌≡◌, ◌<◌, ◌∙◌, ◌++◌, ◌∷◌, [], List, Option, Some, length, nat_lt, true, false, if◌then◌else◌, subst, sym, ap, arith, ℕ}
use Rattle.std.proofs.Common.{Bool}
use Rattle.std.proofs.lemmas.List.{length-append}
use Rattle.mem_devices.proofs.Filled.{AreFilled, none_filled, one_filled, all_in, filled_at}
use Rattle.mirror_devices.specs.Empty.{IsEmptyMirror, copies_at}
use Rattle.mirror_devices.specs.MirrorRacks.{PlainMirror}
use Rattle.mirror_devices.proofs.Blank.{IsBlank}
use Rattle.mirror_devices.proofs.mirror_rack.MirrorRack.new.Goals as goal

pub places-init : goal.places-init
places-init c =
    let blank = IsBlank c.args.coordinators c.args.nodes c.args.replicas c.args.capacity in
    (ap length c.in_ok-places.ensures.items, subst (AreFilled blank) (sym c.in_ok-places.ensures.items) (none_filled blank))

pub places-preserved : goal.places-preserved
places-preserved c =
    let blank = IsBlank c.args.coordinators c.args.nodes c.args.replicas c.args.capacity in
    let places : List (Option PlainMirror) = c.places.places.items in
    let many : length places ≡ c.places.node = c.places.invariant.0 in
    let has : blank (length places) c.in_ok-mirror.mirror = (λ low.
    let inside : c.places.node < c.args.nodes = subst (λ k. k < c.args.nodes) many low in
    let t : nat_lt c.places.node c.args.nodes ≡ true = grind (arith, inside) in
    let copies = c.copies_of-copies.ensures.copies ∙ ap (copies_at c.args.coordinators c.args.replicas) (sym many) in
    subst (λ k. IsEmptyMirror k c.args.capacity c.in_ok-mirror.mirror) copies
    (subst (λ (k : ℕ). IsEmptyMirror c.copies_of-copies.result k c.in_ok-mirror.mirror)
    (c.room_of-room.ensures ∙ ap (λ (b : Bool). if b then c.args.capacity else 0) t) c.in_ok-mirror.ensures)) in
    let filled = one_filled blank places c.in_ok-mirror.mirror c.places.invariant.1 has in
    let long = ap length c.in_ok-push.ensures.items in
    let more = length-append places (Some c.in_ok-mirror.mirror ∷ []) in
    (omega (arith, long, more, many), subst (AreFilled blank) (sym c.in_ok-push.ensures.items) filled)

pub invariant_of-result : goal.invariant_of-result
invariant_of-result c = let many = c.places.invariant.0 in let past = c.places-test.false in let end = c.places.auto in
    record { whole = omega (arith, many, past, end) }

pub returns-clause-all : goal.returns-clause-all
returns-clause-all c = all_in (IsBlank c.args.coordinators c.args.nodes c.args.replicas c.args.capacity) c.places.places.items c.places.invariant.1

pub returns-clause-empty : goal.returns-clause-empty
returns-clause-empty c n node low =
    let many = c.places.invariant.0 in
    let past = c.places-test.false in
    let at = filled_at (IsBlank c.args.coordinators c.args.nodes c.args.replicas c.args.capacity) c.places.places.items c.places.invariant.1 n
    (omega (arith, low, many, past)) in
    (at.0, at.1, at.2 node)
