use Rattle.plain_check.proofs.worlds.+are_quiet_below.Given as goal

abbrev pub decreases-are_quiet_below : goal.decreases-are_quiet_below
decreases-are_quiet_below l = l.n
