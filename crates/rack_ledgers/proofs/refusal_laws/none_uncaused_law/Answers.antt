use Rattle.rack_ledgers.proofs.CausedOnce.{not_both}
use Rattle.rack_ledgers.proofs.refusal_laws.none_uncaused_law.Goals as goal

pub returns : goal.returns
returns g c caused answer tell un = not_both g.R.Disk.Disk (g.R.Rack.held c.args.rack.now) caused answer tell un
