use Rattle.cbdc_model.specs.Room.{need_of}
use Rattle.plain_check.proofs.Counts.{counts_up_to}
use Rattle.plain_check.proofs.room.need_of.Goals as goal

pub returns : goal.returns
returns c = counts_up_to c.counted.result c.need_bytes.result (need_of c.args.shape.now c.args.past.now c.args.r.now) c.need_bytes.ensures
    c.counted.ensures
