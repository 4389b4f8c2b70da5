use Rattle.run_laws.proofs.nodes_law.Goals as goal
use Rattle.run_laws.proofs.Nodes as laws

pub returns : goal.returns
returns c = laws.nodes_law
