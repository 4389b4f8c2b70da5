use Rattle.std.proofs.Common.{length}
use Rattle.audit.proofs.outcomes.+are_decided.Given as goal

abbrev pub decreases-are_decided : goal.decreases-are_decided
decreases-are_decided l = length l.es.now
