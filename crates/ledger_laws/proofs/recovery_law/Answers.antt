use Rattle.ledger_laws.proofs.recovery_law.Goals as goal
use Rattle.ledger_laws.proofs.Opening as laws

pub returns : goal.returns
returns c = laws.recovery_law
