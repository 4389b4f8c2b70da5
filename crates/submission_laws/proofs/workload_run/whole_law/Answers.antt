use Rattle.submission_laws.proofs.workload_run.whole_law.Goals as goal
use Rattle.submission_laws.proofs.Whole as laws

pub returns : goal.returns
returns c = laws.whole_law
