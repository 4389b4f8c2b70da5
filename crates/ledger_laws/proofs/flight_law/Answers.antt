use Rattle.ledger_laws.proofs.flight_law.Goals as goal
use Rattle.ledger_laws.proofs.LaneLaws as laws

pub returns : goal.returns
returns c = laws.flight_law
