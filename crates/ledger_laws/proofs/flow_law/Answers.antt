use Rattle.ledger_laws.proofs.flow_law.Goals as goal
use Rattle.ledger_laws.proofs.Recovery as recovery

pub returns : goal.returns
returns c = recovery.flow_law
