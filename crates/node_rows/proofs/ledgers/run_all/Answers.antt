use Rattle.node_rows.proofs.ledgers.run_all.Goals as goal

pub run_lane-requires-clause-settled : goal.run_lane-requires-clause-settled
run_lane-requires-clause-settled g c = c.requires.rests.settled
