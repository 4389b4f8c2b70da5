use Rattle.std.proofs.Common.{length}
use Rattle.plain_check.proofs.proper.+is_proper_compact.Given as goal

abbrev pub decreases-is_proper_compact : goal.decreases-is_proper_compact
decreases-is_proper_compact l = length l.submissions.now
