use Rattle.std.proofs.Common.{length}
use Rattle.plain_check.proofs.telling.+value_out.Given as goal

abbrev pub decreases-value_out : goal.decreases-value_out
decreases-value_out l = length l.outputs.now
