use Rattle.std.proofs.Common.{length}
use Rattle.plain_check.proofs.alikes.+are_prepared_alike.Given as goal

abbrev pub decreases-are_prepared_alike : goal.decreases-are_prepared_alike
decreases-are_prepared_alike l = length l.past.now
