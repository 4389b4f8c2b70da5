use Rattle.ledger_laws.proofs.phase_law.Goals as goal
use Rattle.ledger_laws.proofs.Phases as laws

pub returns : goal.returns
returns c = laws.phase_law
