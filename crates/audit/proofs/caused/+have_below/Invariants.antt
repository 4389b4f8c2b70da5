use Rattle.audit.proofs.caused.+have_below.Given as goal

abbrev pub decreases-have_below : goal.decreases-have_below
decreases-have_below l = l.n
