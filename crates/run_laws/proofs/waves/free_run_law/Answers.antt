use Rattle.run_laws.proofs.waves.free_run_law.Goals as goal
use Rattle.run_laws.proofs.FreeRuns as laws

pub returns : goal.returns
returns c = laws.free_run_law
