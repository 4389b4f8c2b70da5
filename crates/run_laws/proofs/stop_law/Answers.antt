use Rattle.run_laws.proofs.stop_law.Goals as goal
use Rattle.run_laws.proofs.Stopping as laws

pub returns : goal.returns
returns c = laws.stop_law
