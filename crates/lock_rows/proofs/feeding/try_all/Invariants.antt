use Rattle.lock_rows.proofs.feeding.try_all.Given as goal

abbrev pub ghosts-tried : goal.ghosts-tried
ghosts-tried g a = record { shape = a.shape.now; file = a.txs.now; verdicts = g.V.Verifier.verdict_of a.verifier.now }
