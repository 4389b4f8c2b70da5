use Rattle.std.proofs.Common.{length}
use Rattle.plain_check.proofs.room.+outcome_sizes.Given as goal

abbrev pub decreases-outcome_sizes : goal.decreases-outcome_sizes
decreases-outcome_sizes l = length l.outcomes.now
