use Rattle.audit.proofs.Begun.{caused_lists}
use Rattle.audit.proofs.account.caused_lists_law.Goals as goal

pub returns : goal.returns
returns c = caused_lists
