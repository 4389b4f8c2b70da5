use Rattle.cbdc_model.specs.Room.{size_of}
use Rattle.plain_check.proofs.Counts.{counts_up_to}
use Rattle.plain_check.proofs.room.size_of.Goals as goal

pub returns : goal.returns
returns c = counts_up_to c.counted.result c.record_bytes.result (size_of c.args.r.now) c.record_bytes.ensures c.counted.ensures
