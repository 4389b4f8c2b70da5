use Rattle.std.proofs.Common.{length}
use Rattle.plain_check.proofs.kept.+is_steady.Given as goal

abbrev pub decreases-is_steady : goal.decreases-is_steady
decreases-is_steady l = length l.later.now
