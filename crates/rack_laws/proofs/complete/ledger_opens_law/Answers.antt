use Rattle.std.proofs.Common.{None, Some, refl}
use Rattle.cbdc_model.specs.Coins.{genesis_id}
use Rattle.rack_laws.proofs.Openings.{unopened_none}
use Rattle.rack_laws.proofs.Caused.{unsound_none}
use Rattle.rack_laws.proofs.complete.ledger_opens_law.Goals as goal

pub returns-clause-opens : goal.returns-clause-opens
returns-clause-opens g c K mint submissions E answer ready rooms none unopened =
    unopened_none g.R.Disk.Disk (g.R.Rack.held c.args.old.now) (g.R.Rack.count c.args.old.now) (g.R.Rack.count c.args.new.now)
    K mint submissions E ready rooms none None answer tt unopened

pub returns-clause-minted : goal.returns-clause-minted
returns-clause-minted g c K mint submissions E answer ready rooms none unopened =
    unopened_none g.R.Disk.Disk (g.R.Rack.held c.args.old.now) (g.R.Rack.count c.args.old.now) (g.R.Rack.count c.args.new.now)
    K mint submissions E ready rooms none (Some (genesis_id mint)) answer refl unopened

pub returns-clause-caused : goal.returns-clause-caused
returns-clause-caused g c K mint submissions E answer ready unsound =
    unsound_none g.R.Disk.Disk (g.R.Rack.held c.args.old.now) K mint submissions E ready answer unsound
