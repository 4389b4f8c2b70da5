use Rattle.run_laws.proofs.worlds.few_late_law.Goals as goal
use Rattle.run_laws.proofs.Few as laws

pub returns : goal.returns
returns c = laws.few_late_law
