use Rattle.ledger_laws.proofs.cut_law.Goals as goal
use Rattle.ledger_laws.proofs.HistoryLaws as laws

pub returns : goal.returns
returns c = laws.cut_law
