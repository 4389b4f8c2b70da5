use Rattle.lock_rows.proofs.sending.tried.Given as goal
use Rattle.sentinel.specs.declared.verifier.Verdict.TheVariants.{Good}

abbrev pub ghosts-holds : goal.ghosts-holds
ghosts-holds g a = record { shape = a.shape.now; file = a.txs.now; verdicts = λ _ _. Good }
