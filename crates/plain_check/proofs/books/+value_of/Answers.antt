use Rattle.std.proofs.Common.{arith}
use Rattle.std.proofs.lemmas.Grind.{common_steps}
use Rattle.plain_check.proofs.Keys.{value_none}
use Rattle.plain_check.proofs.books.+value_of.Goals as goal

pub returns-in_default-clause-value : goal.returns-in_default-clause-value
returns-in_default-clause-value t c = value_none c.args.coins.now (grind (arith, common_steps))
