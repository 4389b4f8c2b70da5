use Rattle.std.proofs.Common.{length}
use Rattle.plain_check.proofs.room.+compact_sizes.Given as goal

abbrev pub decreases-compact_sizes : goal.decreases-compact_sizes
decreases-compact_sizes l = length l.txs.now
