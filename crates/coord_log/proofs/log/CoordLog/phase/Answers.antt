use Rattle.std.proofs.Common.{◌≡◌, subst}
use Rattle.cbdc_model.specs.Slots.{slot}
use Rattle.coord_core.specs.Phases.{slot_of}
use Rattle.coord_log.proofs.Foreign.{slot_there}
use Rattle.coord_log.proofs.log.CoordLog.phase.Goals as goal

pub returns : goal.returns
returns g c =
    let on = c.self.invariant.on in
    let did = c.phase.ensures in
    subst (λ l. slot_of c.phase.result ≡ slot l.journal c.args.lane) c.self.view_is
    (slot_there c.self.inside.node.core c.self.inside.node.log.header _ c.args.lane (slot_of c.phase.result) on.header did.whole.node on.stands
    on.node.journal did.own did.other)
