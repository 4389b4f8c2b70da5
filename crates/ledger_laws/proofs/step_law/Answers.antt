use Rattle.ledger_laws.proofs.step_law.Goals as goal
use Rattle.ledger_laws.proofs.KeptLaws as laws

pub returns : goal.returns
returns c = laws.step_law
