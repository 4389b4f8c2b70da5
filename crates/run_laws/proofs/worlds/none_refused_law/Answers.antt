use Rattle.run_laws.proofs.worlds.none_refused_law.Goals as goal
use Rattle.run_laws.proofs.Few as laws

pub returns : goal.returns
returns c = laws.none_refused_law
