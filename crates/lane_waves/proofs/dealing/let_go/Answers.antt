use Rattle.std.proofs.Common.{Some}
use Rattle.std.proofs.lemmas.List.Elements.{All-pop}
use Rattle.lane_waves.specs.Deals.{IsNone}
use Rattle.lane_waves.proofs.Places.{no_items}
use Rattle.lane_waves.proofs.dealing.let_go.Goals as goal

pub destroy_empty-requires : goal.destroy_empty-requires
destroy_empty-requires g c = no_items c.in-Some.room
    (All-pop IsNone c.loop-room.rooms.items c.pop.new.self.items (Some c.in-Some.room) c.in-Some.ensures.items c.loop-room.invariant).1

pub loop-room-preserved : goal.loop-room-preserved
loop-room-preserved g c = (All-pop IsNone c.loop-room.rooms.items c.pop.new.self.items (Some c.in-Some.room) c.in-Some.ensures.items
    c.loop-room.invariant).0
