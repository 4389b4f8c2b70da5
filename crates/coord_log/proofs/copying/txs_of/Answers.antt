use Rattle.std.proofs.Common.{arith}
use Rattle.std.proofs.lemmas.Grind.{common_steps}
use Rattle.coord_log.proofs.copying.txs_of.Goals as goal

pub returns-then-is_prepare_of : goal.returns-then-is_prepare_of
returns-then-is_prepare_of c = grind (arith, common_steps)

pub records-preserved : goal.records-preserved
records-preserved c = grind (arith, common_steps)
