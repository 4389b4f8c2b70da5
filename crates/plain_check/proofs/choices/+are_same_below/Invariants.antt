use Rattle.plain_check.proofs.choices.+are_same_below.Given as goal

abbrev pub decreases-are_same_below : goal.decreases-are_same_below
decreases-are_same_below l = l.n
