use Rattle.cbdc_model.specs.Room.{lane_room}
use Rattle.plain_check.proofs.Counts.{counts_up_to}
use Rattle.plain_check.proofs.room.lane_room.Goals as goal

pub returns : goal.returns
returns c = counts_up_to c.counted.result c.lane_bytes.result (lane_room c.args.past.now c.args.lane) c.lane_bytes.ensures c.counted.ensures
