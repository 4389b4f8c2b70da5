use Rattle.std.proofs.Common.{length}
use Rattle.plain_check.proofs.deciding.+prepares_in.Given as goal

abbrev pub decreases-prepares_in : goal.decreases-prepares_in
decreases-prepares_in l = length l.records.now
