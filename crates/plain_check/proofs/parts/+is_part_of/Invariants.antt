use Rattle.std.proofs.Common.{length}
use Rattle.plain_check.proofs.parts.+is_part_of.Given as goal

abbrev pub decreases-is_part_of : goal.decreases-is_part_of
decreases-is_part_of l = length l.txs.now
