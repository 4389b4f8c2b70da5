use Rattle.node_rows.proofs.ledgers.run_one.Goals as goal

pub run_batch-requires-clause-settled : goal.run_batch-requires-clause-settled
run_batch-requires-clause-settled g c = c.requires.rests.settled
