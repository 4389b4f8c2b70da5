use Rattle.plain_check.proofs.ledgers.+later_below.Given as goal

abbrev pub decreases-later_below : goal.decreases-later_below
decreases-later_below l = l.n
