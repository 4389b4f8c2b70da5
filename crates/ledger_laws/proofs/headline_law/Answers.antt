use Rattle.ledger_laws.proofs.headline_law.Goals as goal
use Rattle.ledger_laws.proofs.Recovery as laws

pub returns : goal.returns
returns c = laws.headline_law
