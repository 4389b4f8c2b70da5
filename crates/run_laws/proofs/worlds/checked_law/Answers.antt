use Rattle.run_laws.proofs.worlds.checked_law.Goals as goal
use Rattle.run_laws.proofs.WorldChecked as laws

pub returns : goal.returns
returns c = laws.checked_law
