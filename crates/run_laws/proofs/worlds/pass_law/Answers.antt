use Rattle.run_laws.proofs.worlds.pass_law.Goals as goal
use Rattle.run_laws.proofs.Passing as laws

pub returns : goal.returns
returns c = laws.pass_law
