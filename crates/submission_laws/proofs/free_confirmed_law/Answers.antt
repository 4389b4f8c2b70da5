use Rattle.submission_laws.proofs.free_confirmed_law.Goals as goal
use Rattle.submission_laws.proofs.Freeing as laws

pub returns : goal.returns
returns c = laws.free_confirmed_law
