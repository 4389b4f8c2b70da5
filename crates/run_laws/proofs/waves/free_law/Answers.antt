use Rattle.run_laws.proofs.waves.free_law.Goals as goal
use Rattle.run_laws.proofs.Confirmed as laws

pub returns : goal.returns
returns c = laws.free_law
