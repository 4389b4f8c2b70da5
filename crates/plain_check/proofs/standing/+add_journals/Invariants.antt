use Rattle.plain_check.proofs.standing.+add_journals.Given as goal

abbrev pub decreases-add_journals : goal.decreases-add_journals
decreases-add_journals l = l.n
