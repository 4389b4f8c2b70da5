use Rattle.run_laws.proofs.Room.{kept_room_law}
use Rattle.run_laws.proofs.ample.kept_room_law.Goals as goal

pub returns : goal.returns
returns c = kept_room_law
