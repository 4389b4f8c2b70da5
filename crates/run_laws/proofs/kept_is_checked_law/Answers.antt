use Rattle.run_laws.proofs.kept_is_checked_law.Goals as goal
use Rattle.run_laws.proofs.Checked as laws

pub returns : goal.returns
returns c = laws.kept_is_checked_law
