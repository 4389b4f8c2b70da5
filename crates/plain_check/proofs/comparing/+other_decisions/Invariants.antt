use Rattle.std.proofs.Common.{length}
use Rattle.plain_check.proofs.comparing.+other_decisions.Given as goal

abbrev pub decreases-other_decisions : goal.decreases-other_decisions
decreases-other_decisions l = length l.given.now
