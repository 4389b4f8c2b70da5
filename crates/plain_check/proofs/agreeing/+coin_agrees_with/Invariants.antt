use Rattle.std.proofs.Common.{length}
use Rattle.plain_check.proofs.agreeing.+coin_agrees_with.Given as goal

abbrev pub decreases-coin_agrees_with : goal.decreases-coin_agrees_with
decreases-coin_agrees_with l = length l.ds.now
