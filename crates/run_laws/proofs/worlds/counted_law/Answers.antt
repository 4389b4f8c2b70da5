use Rattle.run_laws.proofs.worlds.counted_law.Goals as goal
use Rattle.run_laws.proofs.Growing as laws

pub returns : goal.returns
returns c = laws.counted_law
