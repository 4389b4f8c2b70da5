use Rattle.std.proofs.Common.{length}
use Rattle.plain_check.proofs.replying.+reply_to.Given as goal

abbrev pub decreases-reply_to : goal.decreases-reply_to
decreases-reply_to l = length l.inputs.now
