use Rattle.audit.specs.Rows.{read}
use Rattle.cut_audit.proofs.Least.{IsLeastOf}
use Rattle.cut_audit.proofs.cutting.least_last.Given as goal

abbrev pub invariant-lists : goal.invariant-lists
invariant-lists l = IsLeastOf (read l.lists) l.n l.least
