use Rattle.std.proofs.Common.{length}
use Rattle.plain_check.proofs.status.+is_taken_input.Given as goal

abbrev pub decreases-is_taken_input : goal.decreases-is_taken_input
decreases-is_taken_input l = length l.es.now
