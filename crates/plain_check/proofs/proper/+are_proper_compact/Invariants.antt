use Rattle.std.proofs.Common.{length}
use Rattle.plain_check.proofs.proper.+are_proper_compact.Given as goal

abbrev pub decreases-are_proper_compact : goal.decreases-are_proper_compact
decreases-are_proper_compact l = length l.ks.now
