use Rattle.run_laws.proofs.flown_law.Goals as goal
use Rattle.run_laws.proofs.Flights as laws

pub returns : goal.returns
returns c = laws.flown_law
