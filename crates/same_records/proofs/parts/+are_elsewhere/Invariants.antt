use Rattle.std.proofs.Common.{length}
use Rattle.same_records.proofs.parts.+are_elsewhere.Given as goal

abbrev pub decreases-are_elsewhere : goal.decreases-are_elsewhere
decreases-are_elsewhere l = length l.xs.now
