use Rattle.coord_core.proofs.Rooms.{taken_rooms}
use Rattle.coord_core.proofs.replaying.CoordCoreCore.apply.Goals as goal

pub returns-clause-stands : goal.returns-clause-stands
returns-clause-stands c = λ J roomy. record {
  stands = c.apply.ensures.stands J roomy.stands;
  rooms = taken_rooms c.args.self.now _ c.args.next.now c.apply.ensures.whole c.requires c.apply.ensures.taken roomy.rooms;
}
