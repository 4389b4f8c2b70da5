use Rattle.std.proofs.Common.{length}
use Rattle.plain_check.proofs.reporting.+reports_in.Given as goal

abbrev pub decreases-reports_in : goal.decreases-reports_in
decreases-reports_in g l = length l.checked.now
