use Rattle.thread_laws.proofs.fresh_settled_law.Goals as goal
use Rattle.thread_laws.proofs.Running as laws

pub returns : goal.returns
returns c = laws.fresh_settled_law
