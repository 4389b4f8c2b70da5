use Rattle.std.proofs.Common.{length}
use Rattle.same_records.proofs.parts.+add_hashes.Given as goal

abbrev pub decreases-add_hashes : goal.decreases-add_hashes
decreases-add_hashes l = length l.xs.now
