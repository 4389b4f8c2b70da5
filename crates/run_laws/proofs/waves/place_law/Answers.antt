use Rattle.run_laws.proofs.waves.place_law.Goals as goal
use Rattle.run_laws.proofs.Placed as laws

pub returns : goal.returns
returns c = laws.place_law
