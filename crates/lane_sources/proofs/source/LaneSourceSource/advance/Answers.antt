use Rattle.std.proofs.Common.{arith}
use Rattle.std.proofs.lemmas.Grind.{common_steps}
use Rattle.lane_sources.proofs.source.LaneSourceSource.advance.Goals as goal

pub returns-in_err-take_next-clause-left : goal.returns-in_err-take_next-clause-left
returns-in_err-take_next-clause-left g c = grind (arith, common_steps)

pub returns-else-self-count-clause-given : goal.returns-else-self-count-clause-given
returns-else-self-count-clause-given g c = grind (arith, common_steps)

pub returns-else-self-count-clause-rest : goal.returns-else-self-count-clause-rest
returns-else-self-count-clause-rest g c = grind (arith, common_steps)

pub returns-after-submissions-clause-given : goal.returns-after-submissions-clause-given
returns-after-submissions-clause-given g c = grind (arith, common_steps)

pub returns-after-submissions-clause-rest : goal.returns-after-submissions-clause-rest
returns-after-submissions-clause-rest g c = grind (arith, common_steps)
