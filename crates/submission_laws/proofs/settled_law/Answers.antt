use Rattle.submission_laws.proofs.settled_law.Goals as goal
use Rattle.submission_laws.proofs.Settling as laws

pub returns : goal.returns
returns c = laws.settled_law
