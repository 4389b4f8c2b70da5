use Rattle.run_laws.proofs.end_law.Goals as goal
use Rattle.run_laws.proofs.Ends as laws

pub returns : goal.returns
returns c = laws.end_law
