use Rattle.std.proofs.Common.{length}
use Rattle.plain_check.proofs.recovering.+lost_in.Given as goal

abbrev pub decreases-lost_in : goal.decreases-lost_in
decreases-lost_in l = length l.outcomes.now
