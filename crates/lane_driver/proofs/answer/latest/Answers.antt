use Rattle.std.proofs.Common.{arith}
use Rattle.std.proofs.lemmas.Grind.{common_steps}
use Rattle.lane_driver.proofs.Greatest.{latest_steps}
use Rattle.lane_driver.proofs.answer.latest.Goals as goal

pub loop-place-preserved : goal.loop-place-preserved
loop-place-preserved g c = grind (arith, latest_steps)

pub returns-in-Err : goal.returns-in-Err
returns-in-Err g c = grind (arith, common_steps)

pub returns : goal.returns
returns g c = grind (arith, common_steps)
