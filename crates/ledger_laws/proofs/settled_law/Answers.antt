use Rattle.ledger_laws.proofs.settled_law.Goals as goal
use Rattle.ledger_laws.proofs.Settling as laws

pub returns : goal.returns
returns c = laws.settled_law
