use Rattle.rack_ledgers.proofs.AuditHistories.{has_one_verdict}
use Rattle.rack_ledgers.proofs.account_laws.one_verdict_law.Goals as goal

pub returns : goal.returns
returns g c = has_one_verdict g.R.Disk.Disk (g.R.Rack.held c.args.rack.now)
