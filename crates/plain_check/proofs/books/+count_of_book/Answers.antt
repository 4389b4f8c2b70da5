use Rattle.std.proofs.Common.{arith}
use Rattle.std.proofs.lemmas.Grind.{common_steps}
use Rattle.plain_check.proofs.Keys.{count_none}
use Rattle.plain_check.proofs.books.+count_of_book.Goals as goal

pub returns-in_default-clause-count : goal.returns-in_default-clause-count
returns-in_default-clause-count t c = count_none c.args.coins.now (grind (arith, common_steps))
