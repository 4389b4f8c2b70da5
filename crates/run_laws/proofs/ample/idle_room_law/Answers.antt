use Rattle.run_laws.proofs.Room.{idle_room_law}
use Rattle.run_laws.proofs.ample.idle_room_law.Goals as goal

pub returns : goal.returns
returns c = idle_room_law
