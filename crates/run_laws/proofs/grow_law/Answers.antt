use Rattle.run_laws.proofs.grow_law.Goals as goal
use Rattle.run_laws.proofs.Ends as laws

pub returns : goal.returns
returns c = laws.grow_law
