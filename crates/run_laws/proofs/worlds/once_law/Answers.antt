use Rattle.run_laws.proofs.worlds.once_law.Goals as goal
use Rattle.run_laws.proofs.Sets as laws

pub returns : goal.returns
returns c = laws.once_law
