use Rattle.run_laws.proofs.ends_law.Goals as goal
use Rattle.run_laws.proofs.TurnKinds as laws

pub returns : goal.returns
returns c = laws.ends_law
