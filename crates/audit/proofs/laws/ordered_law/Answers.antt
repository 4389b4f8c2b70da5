use Rattle.audit.proofs.Ordered.{ordered_rows}
use Rattle.audit.proofs.laws.ordered_law.Goals as goal

pub returns : goal.returns
returns c = ordered_rows
