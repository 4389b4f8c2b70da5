use Rattle.audit.proofs.KeptParts.{kept_part}
use Rattle.audit.proofs.part_laws.kept_part_law.Goals as goal

pub returns : goal.returns
returns c = kept_part
