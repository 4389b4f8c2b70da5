use Rattle.std.proofs.Common.{length}
use Rattle.plain_check.proofs.choices.+choices_of.Given as goal

abbrev pub decreases-choices_of : goal.decreases-choices_of
decreases-choices_of l = length l.journals.now
