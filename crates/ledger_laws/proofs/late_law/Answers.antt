use Rattle.ledger_laws.proofs.late_law.Goals as goal
use Rattle.ledger_laws.proofs.Late as laws

pub returns : goal.returns
returns c = laws.late_law
