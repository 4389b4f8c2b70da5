use Rattle.plain_check.proofs.following.+rests_below.Given as goal

abbrev pub decreases-rests_below : goal.decreases-rests_below
decreases-rests_below l = l.n
