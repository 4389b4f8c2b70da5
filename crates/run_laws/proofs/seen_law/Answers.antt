use Rattle.run_laws.proofs.seen_law.Goals as goal
use Rattle.run_laws.proofs.Seen as laws

pub returns : goal.returns
returns c = laws.seen_law
