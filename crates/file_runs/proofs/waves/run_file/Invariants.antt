use Rattle.file_runs.proofs.waves.run_file.Given as goal

abbrev pub ghosts-run_picked : goal.ghosts-run_picked
ghosts-run_picked g a = record { shape = a.ledger.header.shape; file = a.txs.now; verdicts = g.V.Verifier.verdict_of a.verifier.now }
