use Rattle.run_laws.proofs.grant_law.Goals as goal
use Rattle.run_laws.proofs.Granting as laws

pub returns : goal.returns
returns c = laws.grant_law
