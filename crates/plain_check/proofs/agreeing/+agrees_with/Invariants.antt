use Rattle.std.proofs.Common.{length}
use Rattle.plain_check.proofs.agreeing.+agrees_with.Given as goal

abbrev pub decreases-agrees_with : goal.decreases-agrees_with
decreases-agrees_with l = length l.us.now
