use Rattle.std.proofs.Common.{length}
use Rattle.plain_check.proofs.following.+fits_replies.Given as goal

abbrev pub decreases-fits_replies : goal.decreases-fits_replies
decreases-fits_replies l = length l.decisions.now
