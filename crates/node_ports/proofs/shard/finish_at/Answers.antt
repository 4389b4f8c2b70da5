use Rattle.std.proofs.Common.{false, None}
use Rattle.cbdc_model.specs.Due.{finish_due}
use Rattle.node_journal.specs.Nodes.{sight}
use Rattle.node_ports.proofs.Owed.{still_node}
use Rattle.node_ports.proofs.Coordinators.{told_alone}
use Rattle.node_ports.proofs.Replying.{finish_stamp}
use Rattle.node_ports.proofs.shard.finish_at.Goals as goal

pub returns-clause-answer : goal.returns-clause-answer
returns-clause-answer g c =
    told_alone c.args.call.now.batch.lane false (finish_due c.args.call.now) c.args.node.now.broken (sight c.args.node.now) (sight c.finish.new.self)
    c.finish.result c.finish.ensures.meets c.finish.ensures.keeps.journal c.header-header.ensures.sound.since_opened
    c.header-header.ensures.sound.since_broken c.header-header.ensures.sound.landed c.header-header.ensures.sound.unbroken

pub returns-clause-told : goal.returns-clause-told
returns-clause-told g c =
    finish_stamp c.args.call.now (sight c.args.node.now) (sight c.finish.new.self) c.finish.result
    (told_alone c.args.call.now.batch.lane false (finish_due c.args.call.now) c.args.node.now.broken (sight c.args.node.now)
    (sight c.finish.new.self) c.finish.result c.finish.ensures.meets c.finish.ensures.keeps.journal c.header-header.ensures.sound.since_opened
    c.header-header.ensures.sound.since_broken c.header-header.ensures.sound.landed c.header-header.ensures.sound.unbroken)
    c.finish.ensures.keeps.journal

pub returns-clause-node : goal.returns-clause-node
returns-clause-node g c =
    still_node false c.args.node.now.broken (finish_due c.args.call.now None c.args.node.now.journal) (sight c.args.node.now)
    (sight c.finish.new.self) c.finish.result c.finish.ensures.meets c.header-header.ensures.sound.landed

pub returns-clause-later : goal.returns-clause-later
returns-clause-later g c =
    c.finish.ensures.keeps.node.later

pub returns-clause-holds : goal.returns-clause-holds
returns-clause-holds g c =
    λ h. record { journal = c.finish.ensures.keeps.journal; held = c.finish.ensures.keeps.holds h.held }
