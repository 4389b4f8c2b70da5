use Rattle.ledger_laws.proofs.plain_law.Goals as goal
use Rattle.ledger_laws.proofs.Issuing as issuing

pub returns : goal.returns
returns c = issuing.plain_law
