use Rattle.std.proofs.Common.{length}
use Rattle.plain_check.proofs.handed.+handed_in.Given as goal

abbrev pub decreases-handed_in : goal.decreases-handed_in
decreases-handed_in l = length l.ks.now
