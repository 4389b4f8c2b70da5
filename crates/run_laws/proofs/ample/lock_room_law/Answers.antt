use Rattle.run_laws.proofs.Room.{lock_room_law}
use Rattle.run_laws.proofs.ample.lock_room_law.Goals as goal

pub returns : goal.returns
returns c = lock_room_law
