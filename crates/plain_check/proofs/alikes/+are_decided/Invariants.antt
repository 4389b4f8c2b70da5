use Rattle.std.proofs.Common.{length}
use Rattle.plain_check.proofs.alikes.+are_decided.Given as goal

abbrev pub decreases-are_decided : goal.decreases-are_decided
decreases-are_decided l = length l.txs.now
