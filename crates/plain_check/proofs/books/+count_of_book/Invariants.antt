use Rattle.std.proofs.Common.{length}
use Rattle.plain_check.proofs.books.+count_of_book.Given as goal

abbrev pub decreases-count_of_book : goal.decreases-count_of_book
decreases-count_of_book l = length l.coins.now
