use Rattle.run_laws.proofs.part_law.Goals as goal
use Rattle.run_laws.proofs.PartCalls as laws

pub returns : goal.returns
returns c = laws.part_law
