use Rattle.audit.proofs.Begun.{begun}
use Rattle.audit.proofs.account.begun_law.Goals as goal

pub returns : goal.returns
returns c = begun
