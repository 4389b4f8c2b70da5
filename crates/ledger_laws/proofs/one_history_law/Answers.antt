use Rattle.ledger_laws.proofs.one_history_law.Goals as goal
use Rattle.ledger_laws.proofs.HistoryLaws as laws

pub returns : goal.returns
returns c = laws.one_history_law
