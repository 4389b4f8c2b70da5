use Rattle.ledger_laws.proofs.local_law.Goals as goal
use Rattle.ledger_laws.proofs.LaneLaws as laws

pub returns : goal.returns
returns c = laws.local_law
