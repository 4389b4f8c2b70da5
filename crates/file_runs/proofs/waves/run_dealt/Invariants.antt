use Rattle.file_runs.proofs.waves.run_dealt.Given as goal

abbrev pub ghosts-run_fed : goal.ghosts-run_fed
ghosts-run_fed g a = record { before = a.ledger; lanes = a.works.items }
