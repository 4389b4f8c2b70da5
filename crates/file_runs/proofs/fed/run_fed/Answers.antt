use Rattle.std.proofs.Common.{sym, subst}
use Rattle.lane_waves.specs.Watchers.{IfSaw}
use Rattle.file_runs.specs.Ledgers.{ledger_journals}
use Rattle.file_runs.specs.Looking.{AreLooks}
use Rattle.file_runs.proofs.fed.run_fed.Goals as goal

pub returns-clause-looks : goal.returns-clause-looks
returns-clause-looks g c =
    subst (λ l. IfSaw c.take_looks-looks.result (AreLooks l.header.shape (ledger_journals l))) (sym c.take_looks-looks.ensures.same)
    c.take_looks-looks.ensures.looks
