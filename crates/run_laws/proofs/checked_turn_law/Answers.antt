use Rattle.run_laws.proofs.checked_turn_law.Goals as goal
use Rattle.run_laws.proofs.TurnStep as laws

pub returns : goal.returns
returns c = laws.checked_turn_law
