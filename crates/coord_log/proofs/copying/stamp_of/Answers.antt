use Rattle.std.proofs.Common.{arith}
use Rattle.std.proofs.lemmas.Grind.{common_steps}
use Rattle.coord_log.proofs.copying.stamp_of.Goals as goal

pub records-preserved : goal.records-preserved
records-preserved c = grind (arith, common_steps)

pub returns-then-tells_lane : goal.returns-then-tells_lane
returns-then-tells_lane c = grind (arith, common_steps)
