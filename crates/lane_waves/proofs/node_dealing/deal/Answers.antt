use Rattle.std.proofs.Common.{rules, ◌≡◌, ◌≤◌, ◌<◌, List, [], length, ◌∷◌, ◌++◌, refl, arith, ap, ◌∙◌, sym, append-nil}
use Rattle.std.specs.Prelude.{vec_capacity}
use Rattle.lane_waves.specs.Dealing.{Pops, PopsEach, HaveOne, HaveRoomForOne}
use Rattle.lane_waves.proofs.Rounds.{one_left, deals_on}
use Rattle.lane_waves.proofs.node_dealing.deal.Goals as goal

pub unreachable-requires : goal.unreachable-requires
unreachable-requires g c =
    let some = (one_left c.loop-row.rows.items c.pop.new.self.items c.in-Some.row c.loop-row.invariant.1 c.in-Some.ensures.items).1 in
    search (rules, some, c.in_default-pop.ensures.cases)

pub loop-row-preserved : goal.loop-row-preserved
loop-row-preserved g c =
    let inv = c.loop-row.invariant in
    let p : Pops c.in-Some.row c.pop-in-Some.new.self c.in-Some-pop.item =
    record { items = c.in-Some-pop.ensures.items; room = c.in-Some-pop.ensures.capacity } in (
      deals_on c.args.rows.items c.loop-row.rows.items c.pop.new.self.items c.loop-row.spare.items _ c.loop-row.items.items _ c.in-Some.row
          c.pop-in-Some.new.self c.in-Some-pop.item inv.0 c.in-Some.ensures.items c.push_reserved-in-Some.ensures.items c.push_reserved.ensures.items
          p,
      (one_left c.loop-row.rows.items c.pop.new.self.items c.in-Some.row inv.1 c.in-Some.ensures.items).0,
      search (rules, inv),
      search (rules, inv),
      search (rules, inv),
      search (rules, inv),
    )
