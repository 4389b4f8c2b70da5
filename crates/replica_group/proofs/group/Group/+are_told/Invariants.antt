use Rattle.replica_group.proofs.group.Group.+are_told.Given as goal

abbrev pub decreases-are_told : goal.decreases-are_told
decreases-are_told l = l.n
