use Rattle.std.proofs.Common.{length}
use Rattle.plain_check.proofs.unspent.+add_named.Given as goal

abbrev pub decreases-add_named : goal.decreases-add_named
decreases-add_named l = length l.past.now
