use Rattle.std.proofs.Common.{length}
use Rattle.same_records.proofs.parts.+is_part_from.Given as goal

abbrev pub decreases-is_part_from : goal.decreases-is_part_from
decreases-is_part_from l = length l.txs.now
