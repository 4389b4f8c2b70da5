use Rattle.plain_check.proofs.kept.+add_starts.Given as goal

abbrev pub decreases-add_starts : goal.decreases-add_starts
decreases-add_starts l = l.n
