use Rattle.ledger_laws.proofs.more_law.Goals as goal
use Rattle.ledger_laws.proofs.HistoryLaws as laws

pub returns : goal.returns
returns c = laws.more_law
