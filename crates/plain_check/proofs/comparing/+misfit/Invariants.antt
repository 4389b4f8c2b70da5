use Rattle.std.proofs.Common.{length}
use Rattle.plain_check.proofs.comparing.+misfit.Given as goal

abbrev pub decreases-misfit : goal.decreases-misfit
decreases-misfit l = length l.decisions.now
