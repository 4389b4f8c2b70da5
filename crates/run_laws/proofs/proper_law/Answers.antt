use Rattle.run_laws.proofs.proper_law.Goals as goal
use Rattle.run_laws.proofs.Proper as laws

pub returns : goal.returns
returns c = laws.proper_law
