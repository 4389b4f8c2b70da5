use Rattle.run_laws.proofs.others_law.Goals as goal
use Rattle.run_laws.proofs.OtherLanes as laws

pub returns : goal.returns
returns c = laws.others_law
