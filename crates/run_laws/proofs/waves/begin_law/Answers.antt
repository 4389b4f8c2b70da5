use Rattle.run_laws.proofs.waves.begin_law.Goals as goal
use Rattle.run_laws.proofs.Between as laws

pub returns : goal.returns
returns c = laws.begin_law
