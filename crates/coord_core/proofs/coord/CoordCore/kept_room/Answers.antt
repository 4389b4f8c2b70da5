use Rattle.std.proofs.Common.{arith}
use Rattle.std.proofs.lemmas.Grind.{common_steps}
use Rattle.coord_core.proofs.coord.CoordCore.kept_room.Goals as goal

pub returns-clause-value : goal.returns-clause-value
returns-clause-value c = grind (arith, common_steps)

pub loop-lane-preserved : goal.loop-lane-preserved
loop-lane-preserved c = grind (arith, common_steps)
