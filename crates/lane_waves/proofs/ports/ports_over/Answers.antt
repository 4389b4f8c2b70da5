use Rattle.std.proofs.Common.{rules, ◌≡◌, ◌∷◌, ◌++◌, ◌+◌, [], length, reverse, refl, sym, subst}
use Rattle.lane_waves.specs.Ports.{AreSeated, ArePorts, AreNumbered}
use Rattle.lane_waves.proofs.Porting.{porting, ports_on, ported, numbered_on, none_seated, seated_left, no_locks}
use Rattle.lane_waves.proofs.Places.{nothing_left}
use Rattle.lane_waves.proofs.ports.ports_over.Goals as goal

pub loop-seat-init : goal.loop-seat-init
loop-seat-init g c = (
  porting c.args.locks.now c.args.seats.items c.args.ports.items c.requires.empty c.requires.seated,
  search rules,
  search rules,
  search rules,
  subst (λ ps. AreNumbered (c.args.first + length c.args.locks.now) (reverse ps)) (sym c.requires.empty) tt,
)

pub invariant_of-push_reserved : goal.invariant_of-push_reserved
invariant_of-push_reserved g c =
    let is : c.loop-seat.left.now ≡ c.in-Some-split_last.before.now ++ c.in-Some-split_last.guarded.now ∷ [] =
    search (rules, c.in-Some-split_last.ensures.cases) in
    let k = (seated_left c.loop-seat.left.now c.in-Some-split_last.before.now c.loop-seat.seats.items c.pop.new.self.items
    c.in-Some-split_last.guarded.now c.in-Some.seat c.loop-seat.invariant.0.left is c.in-Some.ensures.items).1 in
    record { own = k }

pub loop-seat-preserved : goal.loop-seat-preserved
loop-seat-preserved g c =
    let inv = c.loop-seat.invariant in
    let is : c.loop-seat.left.now ≡ c.in-Some-split_last.before.now ++ c.in-Some-split_last.guarded.now ∷ [] =
    search (rules, c.in-Some-split_last.ensures.cases) in (
      ports_on c.args.locks.now c.args.seats.items c.loop-seat.left.now c.in-Some-split_last.before.now c.loop-seat.seats.items c.pop.new.self.items
          c.loop-seat.ports.items c.push_reserved.new.self.items c.in-Some-split_last.guarded.now c.in-Some.seat _ inv.0 is c.in-Some.ensures.items
          c.push_reserved.ensures.items (record { guarded = refl; seat = refl }),
      search (rules, inv),
      search (rules, inv, is),
      search (rules, inv),
      numbered_on (c.args.first + length c.in-Some-split_last.before.now) (c.args.first + length c.loop-seat.left.now) c.loop-seat.ports.items
          c.push_reserved.new.self.items _ inv.4 (search (rules, is)) c.push_reserved.ensures.items (search rules),
    )

pub returns-clause-ports : goal.returns-clause-ports
returns-clause-ports g c =
    let none = nothing_left c.loop-seat.seats c.in_default.ensures.cases.0 in
    subst (λ ps. ArePorts c.args.locks.now c.args.seats.items ps) (sym c.reverse.ensures.items)
    (ported c.args.locks.now c.args.seats.items c.loop-seat.left.now c.loop-seat.seats.items c.loop-seat.ports.items c.loop-seat.invariant.0 none)

pub unreachable-requires : goal.unreachable-requires
unreachable-requires g c =
    no_locks c.loop-seat.left.now c.loop-seat.seats.items c.pop.new.self.items c.in-Some.seat c.loop-seat.invariant.0.left
    c.in_default-split_last.ensures.cases c.in-Some.ensures.items

pub returns-clause-numbered : goal.returns-clause-numbered
returns-clause-numbered g c =
    let inv = c.loop-seat.invariant in
    let none = nothing_left c.loop-seat.seats c.in_default.ensures.cases.0 in
    let left : c.loop-seat.left.now ≡ [] = none_seated c.loop-seat.left.now (subst (λ ss. AreSeated c.loop-seat.left.now ss) none inv.0.left) in
    subst (λ ps. AreNumbered c.args.first ps) (sym c.reverse.ensures.items)
    (subst (λ n. AreNumbered n (reverse c.loop-seat.ports.items)) (search (rules, left)) inv.4)
