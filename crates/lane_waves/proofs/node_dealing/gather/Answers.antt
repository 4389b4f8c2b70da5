use Rattle.std.proofs.Common.{rules, arith, sym}
use Rattle.std.proofs.lemmas.Grind.{common_steps}
use Rattle.lane_waves.specs.Dealing.{Pops}
use Rattle.lane_waves.proofs.Rounds.{room_left, gathers_on}
use Rattle.lane_waves.proofs.node_dealing.gather.Goals as goal

pub push_reserved-requires : goal.push_reserved-requires
push_reserved-requires g c =
    let room = (room_left c.loop-row.rows.items c.pop.new.self.items c.in-Some.row c.loop-row.invariant.1 c.in-Some.ensures.items).1 in
    search (rules, room)

pub loop-row-preserved : goal.loop-row-preserved
loop-row-preserved g c =
    let inv = c.loop-row.invariant in
    let p : Pops c.push_reserved.new.self c.in-Some.row c.in-Some-pop.item =
    record { items = c.push_reserved.ensures.items; room = sym c.push_reserved.ensures.capacity } in (
      gathers_on c.args.rows.items c.loop-row.rows.items c.pop.new.self.items c.loop-row.spare.items _ c.args.items.items c.loop-row.items.items
          c.pop-in-Some.new.self.items c.in-Some.row c.push_reserved.new.self c.in-Some-pop.item inv.0 c.in-Some.ensures.items
          c.push_reserved-in-Some.ensures.items c.in-Some-pop.ensures.items p,
      (room_left c.loop-row.rows.items c.pop.new.self.items c.in-Some.row inv.1 c.in-Some.ensures.items).0,
      search (rules, inv),
      search (rules, inv),
      search (rules, inv),
      search (rules, inv),
      search (rules, inv),
    )

pub returns-clause-empty : goal.returns-clause-empty
returns-clause-empty g c = grind (arith, common_steps)

pub returns-clause-added : goal.returns-clause-added
returns-clause-added g c = grind (arith, common_steps)
