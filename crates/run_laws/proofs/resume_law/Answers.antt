use Rattle.run_laws.proofs.resume_law.Goals as goal
use Rattle.run_laws.proofs.OpenLanes as laws

pub returns : goal.returns
returns c = laws.resume_law
