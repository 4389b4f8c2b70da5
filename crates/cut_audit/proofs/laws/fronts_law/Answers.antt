use Rattle.cut_audit.proofs.Keeping.{the_fronts_law}
use Rattle.cut_audit.proofs.laws.fronts_law.Goals as goal

pub returns : goal.returns
returns c = the_fronts_law
