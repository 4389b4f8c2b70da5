use Rattle.run_laws.proofs.worlds.stuck_law.Goals as goal
use Rattle.run_laws.proofs.Recovering as laws

pub returns : goal.returns
returns c = laws.stuck_law
