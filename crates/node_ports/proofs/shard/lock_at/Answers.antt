use Rattle.std.proofs.Common.{true, None}
use Rattle.cbdc_model.specs.Due.{lock_due}
use Rattle.node_journal.specs.Nodes.{sight}
use Rattle.node_ports.proofs.Owed.{still_node}
use Rattle.node_ports.proofs.Coordinators.{told_alone}
use Rattle.node_ports.proofs.Replying.{lock_replies}
use Rattle.node_ports.proofs.shard.lock_at.Goals as goal

pub returns-clause-answer : goal.returns-clause-answer
returns-clause-answer g c =
    told_alone c.args.call.now.batch.lane true (lock_due c.args.node.now.header.shape c.args.node.now.capacity c.args.call.now)
    c.args.node.now.broken (sight c.args.node.now) (sight c.lock.new.self) c.lock.result c.lock.ensures.meets c.lock.ensures.keeps.journal
    c.header-header.ensures.sound.since_opened c.header-header.ensures.sound.since_broken c.header-header.ensures.sound.landed
    c.header-header.ensures.sound.unbroken

pub returns-clause-told : goal.returns-clause-told
returns-clause-told g c =
    lock_replies c.args.call.now (sight c.args.node.now) (sight c.lock.new.self) c.lock.result
    (told_alone c.args.call.now.batch.lane true (lock_due c.args.node.now.header.shape c.args.node.now.capacity c.args.call.now)
    c.args.node.now.broken (sight c.args.node.now) (sight c.lock.new.self) c.lock.result c.lock.ensures.meets c.lock.ensures.keeps.journal
    c.header-header.ensures.sound.since_opened c.header-header.ensures.sound.since_broken c.header-header.ensures.sound.landed
    c.header-header.ensures.sound.unbroken) c.lock.ensures.keeps.journal c.lock.ensures.keeps.node.header

pub returns-clause-node : goal.returns-clause-node
returns-clause-node g c =
    still_node true c.args.node.now.broken (lock_due c.args.node.now.header.shape c.args.node.now.capacity c.args.call.now None
    c.args.node.now.journal) (sight c.args.node.now) (sight c.lock.new.self) c.lock.result c.lock.ensures.meets
    c.header-header.ensures.sound.landed

pub returns-clause-later : goal.returns-clause-later
returns-clause-later g c =
    c.lock.ensures.keeps.node.later

pub returns-clause-holds : goal.returns-clause-holds
returns-clause-holds g c =
    λ h. record { journal = c.lock.ensures.keeps.journal; held = c.lock.ensures.keeps.holds h.held }
