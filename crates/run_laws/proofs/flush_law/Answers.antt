use Rattle.run_laws.proofs.flush_law.Goals as goal
use Rattle.run_laws.proofs.Flights as laws

pub returns : goal.returns
returns c = laws.flush_law
