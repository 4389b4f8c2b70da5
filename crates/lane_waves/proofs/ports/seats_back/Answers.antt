use Rattle.std.proofs.Common.{rules, ◌∙◌}
use Rattle.lane_waves.proofs.Porting.{backing, backs_on, backed}
use Rattle.lane_waves.proofs.Places.{nothing_left}
use Rattle.lane_waves.proofs.ports.seats_back.Goals as goal

pub loop-port-preserved : goal.loop-port-preserved
loop-port-preserved g c =
    let inv = c.loop-port.invariant in (
      backs_on c.args.ports.items c.loop-port.ports.items c.pop.new.self.items c.loop-port.seats.items c.push_reserved.new.self.items c.in-Some.port
          inv.0 c.in-Some.ensures.items c.push_reserved.ensures.items,
      search (rules, inv),
    )

pub loop-port-init : goal.loop-port-init
loop-port-init g c = (backing c.args.ports.items c.args.seats.items c.requires.empty, search rules)

pub returns : goal.returns
returns g c =
    let none = nothing_left c.loop-port.ports c.in_default.ensures.cases.0 in
    c.reverse.ensures.items ∙ backed c.args.ports.items c.loop-port.ports.items c.loop-port.seats.items c.loop-port.invariant.0 none
