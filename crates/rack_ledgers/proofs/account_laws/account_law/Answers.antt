use Rattle.rack_ledgers.proofs.AuditHistories.{verdicts_account}
use Rattle.rack_ledgers.proofs.account_laws.account_law.Goals as goal

pub returns : goal.returns
returns g c = verdicts_account g.R.Disk.Disk (g.R.Rack.held c.args.rack.now)
