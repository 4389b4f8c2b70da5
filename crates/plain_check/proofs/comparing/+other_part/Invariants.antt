use Rattle.std.proofs.Common.{length}
use Rattle.plain_check.proofs.comparing.+other_part.Given as goal

abbrev pub decreases-other_part : goal.decreases-other_part
decreases-other_part l = length l.part.now
