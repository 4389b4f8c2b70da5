use Rattle.std.proofs.Common.{length}
use Rattle.plain_check.proofs.unspent.+add_entries.Given as goal

abbrev pub decreases-add_entries : goal.decreases-add_entries
decreases-add_entries l = length l.es.now
