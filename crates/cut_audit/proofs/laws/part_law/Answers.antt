use Rattle.cut_audit.proofs.Keeping.{the_part_law}
use Rattle.cut_audit.proofs.laws.part_law.Goals as goal

pub returns : goal.returns
returns c = the_part_law
