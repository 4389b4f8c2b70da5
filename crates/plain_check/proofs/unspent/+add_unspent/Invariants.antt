use Rattle.std.proofs.Common.{length}
use Rattle.plain_check.proofs.unspent.+add_unspent.Given as goal

abbrev pub decreases-add_unspent : goal.decreases-add_unspent
decreases-add_unspent l = length l.xs.now
