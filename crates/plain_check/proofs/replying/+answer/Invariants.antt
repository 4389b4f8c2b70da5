use Rattle.std.proofs.Common.{length}
use Rattle.plain_check.proofs.replying.+answer.Given as goal

abbrev pub decreases-answer : goal.decreases-answer
decreases-answer l = length l.part.now
