use Rattle.audit.proofs.laws.caused_law.Goals as goal
use Rattle.audit.proofs.Keeping as keeping

pub returns : goal.returns
returns c = keeping.caused_law
