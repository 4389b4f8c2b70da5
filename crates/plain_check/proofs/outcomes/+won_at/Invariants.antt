use Rattle.std.proofs.Common.{length}
use Rattle.plain_check.proofs.outcomes.+won_at.Given as goal

abbrev pub decreases-won_at : goal.decreases-won_at
decreases-won_at l = length l.outcomes.now
