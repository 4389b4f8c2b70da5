use Rattle.std.proofs.Common.{length}
use Rattle.plain_check.proofs.history.+add_journal.Given as goal

abbrev pub decreases-add_journal : goal.decreases-add_journal
decreases-add_journal l = length l.rows.now
