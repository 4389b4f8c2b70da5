use Rattle.std.proofs.Common.{length}
use Rattle.plain_check.proofs.books.+add_coins.Given as goal

abbrev pub decreases-add_coins : goal.decreases-add_coins
decreases-add_coins l = length l.outputs.now
