use Rattle.std.proofs.Common.{length}
use Rattle.plain_check.proofs.outcomes.+are_decided_by.Given as goal

abbrev pub decreases-are_decided_by : goal.decreases-are_decided_by
decreases-are_decided_by l = length l.given.now
