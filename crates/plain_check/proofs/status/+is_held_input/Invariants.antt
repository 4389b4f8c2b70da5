use Rattle.std.proofs.Common.{length}
use Rattle.plain_check.proofs.status.+is_held_input.Given as goal

abbrev pub decreases-is_held_input : goal.decreases-is_held_input
decreases-is_held_input l = length l.es.now
