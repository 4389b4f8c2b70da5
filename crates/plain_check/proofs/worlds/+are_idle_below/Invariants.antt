use Rattle.plain_check.proofs.worlds.+are_idle_below.Given as goal

abbrev pub decreases-are_idle_below : goal.decreases-are_idle_below
decreases-are_idle_below l = l.n
