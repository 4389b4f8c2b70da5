use Rattle.std.proofs.Common.{length}
use Rattle.plain_check.proofs.prepares.+are_lists.Given as goal

abbrev pub decreases-are_lists : goal.decreases-are_lists
decreases-are_lists l = length l.xs.now
