use Rattle.std.proofs.Common.{Ok}
use Rattle.file_runs.specs.Deeds.{first_files}
use Rattle.file_runs.specs.Stretches.{ledger_sight, Stretch}
use Rattle.file_runs.proofs.files.run_files.Given as goal

abbrev pub invariant-files : goal.invariant-files
invariant-files g l = Stretch (first_files (g.V.Verifier.verdict_of l.fn.verifier) l.files l.txs-index) (ledger_sight g.D.Disk l.fn.ledger)
    (ledger_sight g.D.Disk l.ledger) (Ok l.waves.items)
