use Rattle.std.proofs.Common.{List, ◌++◌, take}
use Rattle.cbdc_model.specs.Records.{Compact}
use Rattle.cbdc_model.specs.Coins.{Output}
use Rattle.cbdc_model.specs.Outcomes.{won_txs}
use Rattle.audit.specs.Keeping.{IsIndex, HasSpent}
use Rattle.audit.proofs.folding.Fold.commit.Given as goal

abbrev pub invariant-txs : goal.invariant-txs
invariant-txs l = (mint : List Output) (forms : List Compact) → IsIndex l.handed l.ids → HasSpent mint l.handed forms l.initial.self
    → HasSpent mint l.handed (forms ++ won_txs (take l.at l.txs) (take l.at l.outcomes)) l.self
