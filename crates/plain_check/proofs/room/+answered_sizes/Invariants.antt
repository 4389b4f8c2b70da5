use Rattle.std.proofs.Common.{length}
use Rattle.plain_check.proofs.room.+answered_sizes.Given as goal

abbrev pub decreases-answered_sizes : goal.decreases-answered_sizes
decreases-answered_sizes l = length l.es.now
