use Rattle.plain_check.proofs.recovering.+open_below.Given as goal

abbrev pub decreases-open_below : goal.decreases-open_below
decreases-open_below l = l.lanes
