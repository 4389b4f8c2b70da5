use Rattle.ledger_laws.proofs.reach_law.Goals as goal
use Rattle.ledger_laws.proofs.HistoryLaws as laws

pub returns : goal.returns
returns c = laws.reach_law
