use Rattle.run_laws.proofs.Row.{row}
use Rattle.run_laws.proofs.ample.row_law.Goals as goal

pub returns : goal.returns
returns c = row
