use Rattle.std.proofs.Common.{rules, ◌≡◌, ◌+◌, length, sym, ap, ◌∙◌, arith}
use Rattle.std.proofs.lemmas.Grind.{common_steps}
use Rattle.lane_waves.specs.NodeRows.{lanes_of}
use Rattle.lane_waves.proofs.Closing.{begun, goes_on, ended, none_of, watching_parts}
use Rattle.lane_waves.proofs.ends.close_onto.Goals as goal

pub loop-lock-init : goal.loop-lock-init
loop-lock-init g c = (
  begun g.N.Sighted.sight g.N.Sighted.goes c.args.locks.items c.args.seats.items c.args.watchers.items c.args.nodes.items c.requires.ready
      c.requires.watching,
  c.requires.room,
)

pub loop-lock-preserved : goal.loop-lock-preserved
loop-lock-preserved g c =
    let inv = c.loop-lock.invariant in
    let w = watching_parts c.loop-lock.locks.items c.pop.new.self.items c.loop-lock.watchers.items c.pop-in-Some-2.new.self.items c.in-Some.lock
    c.in-Some-pop-2.watch inv.0.watching c.in-Some.ensures.items c.in-Some-pop-2.ensures.items in (
      goes_on g.N.Sighted.sight g.N.Sighted.goes c.args.locks.items c.args.seats.items c.args.watchers.items c.args.nodes.items
          c.loop-lock.locks.items c.pop.new.self.items c.loop-lock.seats.items c.pop-in-Some.new.self.items
          c.loop-lock.watchers.items c.pop-in-Some-2.new.self.items c.loop-lock.nodes.items c.push_reserved.new.self.items c.in-Some.lock
          c.in-Some-pop.own c.in-Some-pop-2.watch c.close_watched.result inv.0 c.in-Some.ensures.items
          c.in-Some-pop.ensures.items c.in-Some-pop-2.ensures.items c.push_reserved.ensures.items
          (record { done = c.close_watched.ensures.done (lanes_of c.in-Some.lock) w.0.last; lives = c.close_watched.ensures.lives })
          c.close_watched.ensures.front,
      (let e = inv.1 in search (rules, e)),
    )

pub returns : goal.returns
returns g c =
    let empty : length c.loop-lock.locks.items ≡ 0 = search (rules, c.in_default.ensures.cases) in
    ended g.N.Sighted.sight g.N.Sighted.goes c.args.locks.items c.args.seats.items c.args.watchers.items c.args.nodes.items c.loop-lock.locks.items
    c.loop-lock.seats.items c.loop-lock.watchers.items c.loop-lock.nodes.items
    c.loop-lock.invariant.0 (none_of c.loop-lock.locks.items empty)
