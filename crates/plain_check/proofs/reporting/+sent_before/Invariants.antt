use Rattle.std.proofs.Common.{length}
use Rattle.plain_check.proofs.reporting.+sent_before.Given as goal

abbrev pub decreases-sent_before : goal.decreases-sent_before
decreases-sent_before g l = length l.files.now
