use Rattle.run_laws.proofs.resumed_turn_law.Goals as goal
use Rattle.run_laws.proofs.BatchTurns as laws

pub returns : goal.returns
returns c = laws.resumed_turn_law
