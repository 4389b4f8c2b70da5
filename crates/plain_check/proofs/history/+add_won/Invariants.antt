use Rattle.std.proofs.Common.{length}
use Rattle.plain_check.proofs.history.+add_won.Given as goal

abbrev pub decreases-add_won : goal.decreases-add_won
decreases-add_won l = length l.txs.now
