use Rattle.std.proofs.Common.{length}
use Rattle.plain_check.proofs.history.+add_committed.Given as goal

abbrev pub decreases-add_committed : goal.decreases-add_committed
decreases-add_committed l = length l.rows.now
