use Rattle.run_laws.proofs.open_turn_law.Goals as goal
use Rattle.run_laws.proofs.BatchTurns as laws

pub returns : goal.returns
returns c = laws.open_turn_law
