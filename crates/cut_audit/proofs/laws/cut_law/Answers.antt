use Rattle.cut_audit.proofs.Keeping.{the_cut_law}
use Rattle.cut_audit.proofs.laws.cut_law.Goals as goal

pub returns : goal.returns
returns c = the_cut_law
