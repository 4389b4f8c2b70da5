use Rattle.run_laws.proofs.resuming_step_law.Goals as goal
use Rattle.run_laws.proofs.WaveTurns as laws

pub returns : goal.returns
returns c = laws.resuming_step_law
