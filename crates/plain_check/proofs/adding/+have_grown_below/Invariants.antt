use Rattle.plain_check.proofs.adding.+have_grown_below.Given as goal

abbrev pub decreases-have_grown_below : goal.decreases-have_grown_below
decreases-have_grown_below l = l.n
