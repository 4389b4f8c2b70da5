use Rattle.std.proofs.Common.{◌≡◌}
use Rattle.command_answers.specs.Scene.{no_output, scene}
use Rattle.rack_ledgers.specs.Racked.{disks_in}
use Rattle.init_command.proofs.Unmade.{unmade_same, unmade_left}
use Rattle.init_command.proofs.Making.{made_did}
use Rattle.init_command.proofs.initial.make.Goals as goal

pub returns-in-Ok-clause-made : goal.returns-in-Ok-clause-made
returns-in-Ok-clause-made g c =
    made_did g.R.Disk.Disk (g.I.Inbox.file c.args.inbox.now) (disks_in g.R.Rack c.args.rack.now) (disks_in g.R.Rack c.make_ledger.new.rack)
    c.args.shape.now c.args.file.now c.in-Ok.mint c.in-Ok.ensures.read
    c.make_ledger.result c.make_ledger.ensures.made c.make_ledger.ensures.was c.make_ledger.ensures.places c.make_ledger.ensures.written
    c.make_ledger.ensures.rooms c.make_ledger.ensures.others_held

pub returns-in-Ok-clause-untouched : goal.returns-in-Ok-clause-untouched
returns-in-Ok-clause-untouched g c =
    unmade_same c.args.shape.now c.in-Ok.mint g.R.Disk.Disk (g.R.Rack.held c.args.rack.now) (g.R.Rack.count c.args.rack.now)
    (g.R.Rack.count c.make_ledger.new.rack) (c.make_ledger.new.rack ≡ c.args.rack.now)
    c.make_ledger.result c.make_ledger.ensures.refusal c.make_ledger.ensures.untouched

pub returns-in-Ok-clause-left : goal.returns-in-Ok-clause-left
returns-in-Ok-clause-left g c =
    unmade_left g.R.Disk.Disk (scene g.I.Inbox g.R.Rack no_output c.args.inbox.now c.args.rack.now tt)
    (scene g.I.Inbox g.R.Rack no_output c.mint_in.new.inbox c.make_ledger.new.rack tt)
    c.args.shape.now c.args.file.now c.in-Ok.mint (c.make_ledger.new.rack ≡ c.args.rack.now)
    c.make_ledger.result c.in-Ok.ensures.read c.make_ledger.ensures.stops
