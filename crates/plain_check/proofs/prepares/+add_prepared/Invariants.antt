use Rattle.std.proofs.Common.{length}
use Rattle.plain_check.proofs.prepares.+add_prepared.Given as goal

abbrev pub decreases-add_prepared : goal.decreases-add_prepared
decreases-add_prepared l = length l.past.now
