use Rattle.plain_check.proofs.causes.+greatest_below.Given as goal

abbrev pub decreases-greatest_below : goal.decreases-greatest_below
decreases-greatest_below l = l.n
