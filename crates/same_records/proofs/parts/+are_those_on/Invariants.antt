use Rattle.std.proofs.Common.{length}
use Rattle.same_records.proofs.parts.+are_those_on.Given as goal

abbrev pub decreases-are_those_on : goal.decreases-are_those_on
decreases-are_those_on l = length l.xs.now
