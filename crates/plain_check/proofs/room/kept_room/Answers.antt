use Rattle.cbdc_model.specs.Room.{kept_room}
use Rattle.plain_check.proofs.Counts.{counts_up_to}
use Rattle.plain_check.proofs.room.kept_room.Goals as goal

pub returns : goal.returns
returns c = counts_up_to c.counted.result c.kept_bytes.result (kept_room c.args.shape.now c.args.past.now) c.kept_bytes.ensures c.counted.ensures
