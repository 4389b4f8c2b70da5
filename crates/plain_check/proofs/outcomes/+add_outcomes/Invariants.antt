use Rattle.std.proofs.Common.{length}
use Rattle.plain_check.proofs.outcomes.+add_outcomes.Given as goal

abbrev pub decreases-add_outcomes : goal.decreases-add_outcomes
decreases-add_outcomes l = length l.txs.now
