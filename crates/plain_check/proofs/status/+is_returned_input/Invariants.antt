use Rattle.std.proofs.Common.{length}
use Rattle.plain_check.proofs.status.+is_returned_input.Given as goal

abbrev pub decreases-is_returned_input : goal.decreases-is_returned_input
decreases-is_returned_input l = length l.es.now
