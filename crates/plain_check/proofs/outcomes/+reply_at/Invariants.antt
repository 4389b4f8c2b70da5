use Rattle.std.proofs.Common.{length}
use Rattle.plain_check.proofs.outcomes.+reply_at.Given as goal

abbrev pub decreases-reply_at : goal.decreases-reply_at
decreases-reply_at l = length l.es.now
