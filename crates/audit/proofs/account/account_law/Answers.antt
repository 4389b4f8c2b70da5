use Rattle.audit.proofs.Accounts.{account}
use Rattle.audit.proofs.account.account_law.Goals as goal

pub returns : goal.returns
returns c = account
