use Rattle.record_log.proofs.Grammar.{one_body}
use Rattle.record_log.proofs.laws.one_body_law.Goals as goal

pub returns : goal.returns
returns c = one_body
