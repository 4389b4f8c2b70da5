use Rattle.std.proofs.Common.{length}
use Rattle.plain_check.proofs.books.+first_output.Given as goal

abbrev pub decreases-first_output : goal.decreases-first_output
decreases-first_output l = length l.coins.now
