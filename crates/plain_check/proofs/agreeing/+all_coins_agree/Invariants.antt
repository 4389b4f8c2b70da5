use Rattle.std.proofs.Common.{length}
use Rattle.plain_check.proofs.agreeing.+all_coins_agree.Given as goal

abbrev pub decreases-all_coins_agree : goal.decreases-all_coins_agree
decreases-all_coins_agree l = length l.cs.now
