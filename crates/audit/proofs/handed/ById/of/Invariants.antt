use Rattle.std.proofs.Common.{take}
use Rattle.audit.specs.Keeping.{IsIndex}
use Rattle.audit.proofs.handed.ById.of.Given as goal

abbrev pub invariant-txs : goal.invariant-txs
invariant-txs l = IsIndex (take l.at l.txs) l.all
