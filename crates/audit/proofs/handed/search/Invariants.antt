use Rattle.std.proofs.Common.{◌≡◌, take, None}
use Rattle.cbdc_model.specs.History.{first_with}
use Rattle.audit.proofs.handed.search.Given as goal

abbrev pub invariant-txs : goal.invariant-txs
invariant-txs l = first_with (take l.at l.txs) l.form ≡ None
