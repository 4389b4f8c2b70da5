use Rattle.std.proofs.Common.{length}
use Rattle.same_records.proofs.parts.+has_no_part.Given as goal

abbrev pub decreases-has_no_part : goal.decreases-has_no_part
decreases-has_no_part l = length l.txs.now
