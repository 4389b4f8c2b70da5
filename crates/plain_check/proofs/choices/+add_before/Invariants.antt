use Rattle.std.proofs.Common.{length}
use Rattle.plain_check.proofs.choices.+add_before.Given as goal

abbrev pub decreases-add_before : goal.decreases-add_before
decreases-add_before l = length l.others.now
