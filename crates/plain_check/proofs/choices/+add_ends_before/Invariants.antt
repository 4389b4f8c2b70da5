use Rattle.std.proofs.Common.{length}
use Rattle.plain_check.proofs.choices.+add_ends_before.Given as goal

abbrev pub decreases-add_ends_before : goal.decreases-add_ends_before
decreases-add_ends_before l = length l.past.now
