use Rattle.std.proofs.Common.{length}
use Rattle.plain_check.proofs.line_unspent.+count_different.Given as goal

abbrev pub decreases-count_different : goal.decreases-count_different
decreases-count_different l = length l.xs.now
