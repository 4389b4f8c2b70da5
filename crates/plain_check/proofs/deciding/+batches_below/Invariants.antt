use Rattle.plain_check.proofs.deciding.+batches_below.Given as goal

abbrev pub decreases-batches_below : goal.decreases-batches_below
decreases-batches_below l = l.lanes
