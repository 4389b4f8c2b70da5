use Rattle.run_laws.proofs.checked_rest_law.Goals as goal
use Rattle.run_laws.proofs.Rests as laws

pub returns : goal.returns
returns c = laws.checked_rest_law
