use Rattle.plain_check.proofs.unspent.+add_below.Given as goal

abbrev pub decreases-add_below : goal.decreases-add_below
decreases-add_below l = l.n
