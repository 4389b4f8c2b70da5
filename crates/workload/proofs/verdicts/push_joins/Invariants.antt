use Rattle.std.proofs.Common.{◌≡◌, ◌++◌, take}
use Rattle.std.specs.List.{flat_map}
use Rattle.workload.specs.Generator.{join_lines}
use Rattle.workload.proofs.verdicts.push_joins.Given as goal

abbrev pub invariant-txs : goal.invariant-txs
invariant-txs l = l.text.items ≡ l.initial.text.items ++ flat_map join_lines (take l.tx-index l.txs)
