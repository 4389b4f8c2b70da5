use Rattle.run_laws.proofs.checked_resume_law.Goals as goal
use Rattle.run_laws.proofs.OpenLanes as laws

pub returns : goal.returns
returns c = laws.checked_resume_law
