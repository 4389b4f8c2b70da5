use Rattle.plain_check.proofs.alikes.+are_all_alike_below.Given as goal

abbrev pub decreases-are_all_alike_below : goal.decreases-are_all_alike_below
decreases-are_all_alike_below l = l.n
