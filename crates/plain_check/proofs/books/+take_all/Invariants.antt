use Rattle.std.proofs.Common.{length}
use Rattle.plain_check.proofs.books.+take_all.Given as goal

abbrev pub decreases-take_all : goal.decreases-take_all
decreases-take_all l = length l.cs.now
