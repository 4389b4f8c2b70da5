use Rattle.plain_check.proofs.stages.+are_prepared_below.Given as goal

abbrev pub decreases-are_prepared_below : goal.decreases-are_prepared_below
decreases-are_prepared_below l = l.n
