use Rattle.std.proofs.Common.{take}
use Rattle.std.specs.List.{AllZip}
use Rattle.submissions.specs.Checks.{IsRuled}
use Rattle.submissions.proofs.rule_each.Given as goal

abbrev pub invariant-transactions : goal.invariant-transactions
invariant-transactions g l = AllZip (IsRuled (g.V.Verifier.verdict_of l.verifier)) (take l.tx-index l.txs) l.ruled.items
