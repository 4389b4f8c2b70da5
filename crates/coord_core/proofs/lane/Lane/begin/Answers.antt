use Rattle.std.proofs.Common.{arith}
use Rattle.std.proofs.lemmas.Grind.{common_steps}
use Rattle.coord_core.proofs.lane.Lane.begin.Goals as goal

pub loop-tx-preserved : goal.loop-tx-preserved
loop-tx-preserved c = grind (arith, common_steps)

pub returns-clause-masks : goal.returns-clause-masks
returns-clause-masks c = grind (arith, common_steps)
