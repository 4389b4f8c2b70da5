use Rattle.ledger_laws.proofs.fold_law.Goals as goal
use Rattle.ledger_laws.proofs.Folding as folding

pub returns : goal.returns
returns c = folding.fold_law
