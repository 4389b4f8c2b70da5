use Rattle.rack_laws.proofs.Small.{new_room}
use Rattle.rack_laws.proofs.complete.new_room_law.Goals as goal

pub returns : goal.returns
returns c = new_room
