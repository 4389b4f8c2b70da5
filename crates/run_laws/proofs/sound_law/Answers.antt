use Rattle.run_laws.proofs.sound_law.Goals as goal
use Rattle.run_laws.proofs.Proper as laws

pub returns : goal.returns
returns c = laws.sound_law
