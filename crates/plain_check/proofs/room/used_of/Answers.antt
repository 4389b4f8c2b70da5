use Rattle.cbdc_model.specs.Due.{used_of}
use Rattle.plain_check.proofs.Counts.{counts_up_to}
use Rattle.plain_check.proofs.room.used_of.Goals as goal

pub returns : goal.returns
returns c = counts_up_to c.counted.result c.used_bytes.result (used_of c.args.past.now) c.used_bytes.ensures c.counted.ensures
