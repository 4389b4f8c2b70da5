use Rattle.plain_check.proofs.outcomes.+outcome_from.Given as goal

abbrev pub decreases-outcome_from : goal.decreases-outcome_from
decreases-outcome_from l = l.n
