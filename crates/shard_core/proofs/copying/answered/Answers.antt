use Rattle.std.proofs.Common.{arith}
use Rattle.std.proofs.lemmas.Grind.{common_steps}
use Rattle.shard_core.proofs.copying.answered.Goals as goal

pub loop-at-preserved : goal.loop-at-preserved
loop-at-preserved c = grind (arith, common_steps)

pub returns-clause-entries : goal.returns-clause-entries
returns-clause-entries c = grind (arith, common_steps)

pub returns-clause-replies : goal.returns-clause-replies
returns-clause-replies c = grind (arith, common_steps)

pub bounds-replies-at : goal.bounds-replies-at
bounds-replies-at c = omega arith
