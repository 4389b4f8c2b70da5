use Rattle.std.proofs.Common.{length}
use Rattle.plain_check.proofs.prepares.+add_pieces.Given as goal

abbrev pub decreases-add_pieces : goal.decreases-add_pieces
decreases-add_pieces l = length l.txs.now
