use Rattle.plain_check.proofs.deciding.+outcome_at.Given as goal

abbrev pub decreases-outcome_at : goal.decreases-outcome_at
decreases-outcome_at l = l.k
