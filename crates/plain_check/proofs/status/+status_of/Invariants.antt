use Rattle.std.proofs.Common.{length}
use Rattle.plain_check.proofs.status.+status_of.Given as goal

abbrev pub decreases-status_of : goal.decreases-status_of
decreases-status_of l = length l.past.now
