use Rattle.run_laws.proofs.worlds.none_open_law.Goals as goal
use Rattle.run_laws.proofs.Sets as laws

pub returns : goal.returns
returns c = laws.none_open_law
