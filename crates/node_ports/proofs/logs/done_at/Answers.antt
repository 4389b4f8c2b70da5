use Rattle.node_journal.specs.Nodes.{sight}
use Rattle.std.proofs.Common.{false, None, sym}
use Rattle.cbdc_model.specs.Due.{done_due}
use Rattle.node_ports.proofs.Owed.{still_node}
use Rattle.node_ports.proofs.Coordinators.{told_alone, later_of, done_stamp, ended_phase, ended_rest}
use Rattle.node_ports.proofs.logs.done_at.Goals as goal

pub done-requires-clause-own : goal.done-requires-clause-own
done-requires-clause-own g c =
    sym c.requires.home.1

pub returns-clause-told : goal.returns-clause-told
returns-clause-told g c =
    told_alone c.args.lane false (done_due c.args.lane c.args.cause) c.args.log.now.broken (sight c.args.log.now) (sight c.done.new.self)
    c.done.result c.done.ensures.meets c.done.ensures.keeps.journal c.header-header.ensures.sound.since_opened
    c.header-header.ensures.sound.since_broken c.header-header.ensures.sound.landed c.header-header.ensures.sound.unbroken

pub returns-clause-stamp : goal.returns-clause-stamp
returns-clause-stamp g c =
    done_stamp c.args.lane c.args.cause c.args.log.now.broken (sight c.args.log.now) (sight c.done.new.self) c.done.result c.done.ensures.meets

pub returns-clause-phase : goal.returns-clause-phase
returns-clause-phase g c =
    ended_phase c.args.lane c.args.cause c.args.log.now.broken (sight c.args.log.now) (sight c.done.new.self) c.done.result c.done.ensures.meets

pub returns-clause-others : goal.returns-clause-others
returns-clause-others g c =
    ended_rest c.args.lane c.args.cause c.args.log.now.broken (sight c.args.log.now) (sight c.done.new.self) c.done.result c.done.ensures.meets

pub returns-clause-node : goal.returns-clause-node
returns-clause-node g c =
    still_node false c.args.log.now.broken (done_due c.args.lane c.args.cause None c.args.log.now.journal) (sight c.args.log.now)
    (sight c.done.new.self) c.done.result c.done.ensures.meets c.header-header.ensures.sound.landed

pub returns-clause-later : goal.returns-clause-later
returns-clause-later g c =
    later_of false (done_due c.args.lane c.args.cause c.args.log.now.broken c.args.log.now.journal) (sight c.args.log.now) (sight c.done.new.self)
    c.done.result c.done.ensures.meets

pub returns-clause-holds : goal.returns-clause-holds
returns-clause-holds g c =
    λ h. record { journal = c.done.ensures.keeps.journal; held = c.done.ensures.keeps.holds h.held }
