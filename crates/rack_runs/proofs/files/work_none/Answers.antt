use Rattle.rack_runs.proofs.Filed.{nothing_worked}
use Rattle.rack_runs.proofs.files.work_none.Goals as goal

pub returns : goal.returns
returns g c = nothing_worked g.D.Disk c.args.ledger c.requires.idle c.requires.checked
