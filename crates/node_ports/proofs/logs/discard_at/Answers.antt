use Rattle.node_journal.specs.Nodes.{sight}
use Rattle.std.proofs.Common.{false, None, sym}
use Rattle.cbdc_model.specs.Due.{discard_due}
use Rattle.node_ports.proofs.Owed.{still_node}
use Rattle.node_ports.proofs.Coordinators.{told_alone, later_of, discard_stamp, discard_phase, discard_rest}
use Rattle.node_ports.proofs.logs.discard_at.Goals as goal

pub discard-requires-clause-own : goal.discard-requires-clause-own
discard-requires-clause-own g c =
    sym c.requires.home.1

pub returns-clause-told : goal.returns-clause-told
returns-clause-told g c =
    told_alone c.args.lane false (discard_due c.args.lane c.args.cause) c.args.log.now.broken (sight c.args.log.now) (sight c.discard.new.self)
    c.discard.result c.discard.ensures.meets c.discard.ensures.keeps.journal c.header-header.ensures.sound.since_opened
    c.header-header.ensures.sound.since_broken c.header-header.ensures.sound.landed c.header-header.ensures.sound.unbroken

pub returns-clause-stamp : goal.returns-clause-stamp
returns-clause-stamp g c =
    discard_stamp c.args.lane c.args.cause c.args.log.now.broken (sight c.args.log.now) (sight c.discard.new.self) c.discard.result
    c.discard.ensures.meets

pub returns-clause-phase : goal.returns-clause-phase
returns-clause-phase g c =
    discard_phase c.args.lane c.args.cause c.args.log.now.broken (sight c.args.log.now) (sight c.discard.new.self) c.discard.result
    c.discard.ensures.meets

pub returns-clause-others : goal.returns-clause-others
returns-clause-others g c =
    discard_rest c.args.lane c.args.cause c.args.log.now.broken (sight c.args.log.now) (sight c.discard.new.self) c.discard.result
    c.discard.ensures.meets

pub returns-clause-node : goal.returns-clause-node
returns-clause-node g c =
    still_node false c.args.log.now.broken (discard_due c.args.lane c.args.cause None c.args.log.now.journal) (sight c.args.log.now)
    (sight c.discard.new.self) c.discard.result c.discard.ensures.meets c.header-header.ensures.sound.landed

pub returns-clause-later : goal.returns-clause-later
returns-clause-later g c =
    later_of false (discard_due c.args.lane c.args.cause c.args.log.now.broken c.args.log.now.journal) (sight c.args.log.now)
    (sight c.discard.new.self) c.discard.result c.discard.ensures.meets

pub returns-clause-holds : goal.returns-clause-holds
returns-clause-holds g c =
    λ h. record { journal = c.discard.ensures.keeps.journal; held = c.discard.ensures.keeps.holds h.held }
