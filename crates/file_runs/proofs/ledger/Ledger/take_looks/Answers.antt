use Rattle.std.proofs.Common.{sym, subst}
use Rattle.lane_waves.specs.Watchers.{IfSaw}
use Rattle.file_runs.specs.Ledgers.{ledger_journals, node_journals}
use Rattle.file_runs.specs.Looking.{AreLooks}
use Rattle.file_runs.proofs.ledger.Ledger.take_looks.Goals as goal

pub returns-clause-looks : goal.returns-clause-looks
returns-clause-looks g c =
    subst (λ l. IfSaw c.replace.result (AreLooks l.header.shape (ledger_journals l))) c.self.view_is
    (subst (λ w. IfSaw w (AreLooks c.self.inside.header.shape
    (node_journals c.self.inside.header.shape c.self.inside.logs.items c.self.inside.shards.items))) (sym c.replace.ensures.value)
    c.self.invariant.looks)
