use Rattle.plain_check.proofs.kept.+add_geneses.Given as goal

abbrev pub decreases-add_geneses : goal.decreases-add_geneses
decreases-add_geneses l = l.n
