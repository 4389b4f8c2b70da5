use Rattle.record_log.proofs.Grammar.{fits_record}
use Rattle.record_log.proofs.Lengths.{body_length}
use Rattle.record_log.proofs.laws.size_law.Goals as goal

pub returns : goal.returns
returns c = λ h r limits is. body_length r (fits_record h r limits is)
