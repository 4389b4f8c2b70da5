use Rattle.std.proofs.Common.{length}
use Rattle.plain_check.proofs.status.+is_made_output.Given as goal

abbrev pub decreases-is_made_output : goal.decreases-is_made_output
decreases-is_made_output l = length l.es.now
