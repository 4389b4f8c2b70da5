use Rattle.std.proofs.Common.{length}
use Rattle.plain_check.proofs.ledgers.+add_with.Given as goal

abbrev pub decreases-add_with : goal.decreases-add_with
decreases-add_with l = length l.rows.now
