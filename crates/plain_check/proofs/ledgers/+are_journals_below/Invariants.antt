use Rattle.plain_check.proofs.ledgers.+are_journals_below.Given as goal

abbrev pub decreases-are_journals_below : goal.decreases-are_journals_below
decreases-are_journals_below l = l.n
