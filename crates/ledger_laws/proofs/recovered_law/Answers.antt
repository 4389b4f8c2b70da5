use Rattle.ledger_laws.proofs.recovered_law.Goals as goal
use Rattle.ledger_laws.proofs.Recovery as laws

pub returns : goal.returns
returns c = laws.recovered_law
