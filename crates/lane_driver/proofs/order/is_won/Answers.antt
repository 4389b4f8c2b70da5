use Rattle.std.proofs.Common.{arith}
use Rattle.lane_driver.proofs.Winners.{winners}
use Rattle.lane_driver.proofs.order.is_won.Goals as goal

pub returns-in-Some-Held : goal.returns-in-Some-Held
returns-in-Some-Held c = grind (arith, winners)

pub returns-in_default : goal.returns-in_default
returns-in_default c = grind (arith, winners)

pub returns-in_default-2 : goal.returns-in_default-2
returns-in_default-2 c = grind (arith, winners)
