use Rattle.std.proofs.Common.{length}
use Rattle.plain_check.proofs.room.+record_sizes.Given as goal

abbrev pub decreases-record_sizes : goal.decreases-record_sizes
decreases-record_sizes l = length l.past.now
