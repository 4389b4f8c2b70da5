use Rattle.plain_check.proofs.room.+kept_below.Given as goal

abbrev pub decreases-kept_below : goal.decreases-kept_below
decreases-kept_below l = l.n
