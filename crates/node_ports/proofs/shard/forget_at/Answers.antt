use Rattle.std.proofs.Common.{false, None}
use Rattle.cbdc_model.specs.Due.{forget_due}
use Rattle.node_journal.specs.Nodes.{sight}
use Rattle.node_ports.proofs.Owed.{still_node}
use Rattle.node_ports.proofs.Coordinators.{told_alone}
use Rattle.node_ports.proofs.Replying.{forget_stamp}
use Rattle.node_ports.proofs.shard.forget_at.Goals as goal

pub returns-clause-answer : goal.returns-clause-answer
returns-clause-answer g c =
    told_alone c.args.call.now.batch.lane false (forget_due c.args.call.now) c.args.node.now.broken (sight c.args.node.now) (sight c.forget.new.self)
    c.forget.result c.forget.ensures.meets c.forget.ensures.keeps.journal c.header-header.ensures.sound.since_opened
    c.header-header.ensures.sound.since_broken c.header-header.ensures.sound.landed c.header-header.ensures.sound.unbroken

pub returns-clause-told : goal.returns-clause-told
returns-clause-told g c =
    forget_stamp c.args.call.now (sight c.args.node.now) (sight c.forget.new.self) c.forget.result
    (told_alone c.args.call.now.batch.lane false (forget_due c.args.call.now) c.args.node.now.broken (sight c.args.node.now)
    (sight c.forget.new.self) c.forget.result c.forget.ensures.meets c.forget.ensures.keeps.journal c.header-header.ensures.sound.since_opened
    c.header-header.ensures.sound.since_broken c.header-header.ensures.sound.landed c.header-header.ensures.sound.unbroken)
    c.forget.ensures.keeps.journal

pub returns-clause-node : goal.returns-clause-node
returns-clause-node g c =
    still_node false c.args.node.now.broken (forget_due c.args.call.now None c.args.node.now.journal) (sight c.args.node.now)
    (sight c.forget.new.self) c.forget.result c.forget.ensures.meets c.header-header.ensures.sound.landed

pub returns-clause-later : goal.returns-clause-later
returns-clause-later g c =
    c.forget.ensures.keeps.node.later

pub returns-clause-holds : goal.returns-clause-holds
returns-clause-holds g c =
    λ h. record { journal = c.forget.ensures.keeps.journal; held = c.forget.ensures.keeps.holds h.held }
