use Rattle.run_laws.proofs.Room.{prepare_room_law}
use Rattle.run_laws.proofs.ample.prepare_room_law.Goals as goal

pub returns : goal.returns
returns c = prepare_room_law
