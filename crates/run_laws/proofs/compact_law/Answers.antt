use Rattle.run_laws.proofs.compact_law.Goals as goal
use Rattle.run_laws.proofs.Members as laws

pub returns : goal.returns
returns c = laws.compact_law
