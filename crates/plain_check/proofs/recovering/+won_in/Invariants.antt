use Rattle.std.proofs.Common.{length}
use Rattle.plain_check.proofs.recovering.+won_in.Given as goal

abbrev pub decreases-won_in : goal.decreases-won_in
decreases-won_in l = length l.outcomes.now
