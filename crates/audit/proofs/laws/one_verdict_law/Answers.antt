use Rattle.audit.proofs.Single.{one_verdict}
use Rattle.audit.proofs.laws.one_verdict_law.Goals as goal

pub returns : goal.returns
returns c = one_verdict
