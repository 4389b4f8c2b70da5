use Rattle.std.proofs.Common.{length}
use Rattle.plain_check.proofs.following.+is_unsealed.Given as goal

abbrev pub decreases-is_unsealed : goal.decreases-is_unsealed
decreases-is_unsealed l = length l.past.now
