use Rattle.plain_check.proofs.causes.+have_below.Given as goal

abbrev pub decreases-have_below : goal.decreases-have_below
decreases-have_below l = l.n
