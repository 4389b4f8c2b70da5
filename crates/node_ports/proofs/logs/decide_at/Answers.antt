use Rattle.coord_log.specs.Logs.{commit_due}
use Rattle.node_journal.specs.Nodes.{sight}
use Rattle.std.proofs.Common.{◌^◌, false, None, sym}
use Rattle.node_ports.proofs.Owed.{still_decided}
use Rattle.node_ports.proofs.Deciding.{decided_moves}
use Rattle.node_ports.proofs.Rises.{rises, all_earlier, all_name}
use Rattle.node_ports.proofs.Coordinators.{decide_told, decide_fault, decide_stamp, decide_phase, decide_written, decide_rest}
use Rattle.node_ports.proofs.logs.decide_at.Goals as goal

pub decide-answer-requires-clause-own : goal.decide-answer-requires-clause-own
decide-answer-requires-clause-own g c =
    sym c.requires.home.1

pub decide-answer-requires-clause-rising : goal.decide-answer-requires-clause-rising
decide-answer-requires-clause-rising g c =
    rises c.args.log.now.header.shape.shards c.args.replies.now c.requires.replies.0

pub decide-answer-requires-clause-earlier : goal.decide-answer-requires-clause-earlier
decide-answer-requires-clause-earlier g c =
    all_earlier (2 ^ 63) c.args.replies.now c.requires.replies.1

pub decide-answer-requires-clause-named : goal.decide-answer-requires-clause-named
decide-answer-requires-clause-named g c =
    all_name c.args.log.now.header.shape c.args.replies.now c.requires.replies.2

pub returns-clause-told : goal.returns-clause-told
returns-clause-told g c =
    decide_told c.args.lane c.args.replies.now c.args.log.now.broken (sight c.args.log.now) (sight c.decide-answer.new.self) c.decide-answer.result
    c.requires.replies c.decide-answer.ensures.meets c.decide-answer.ensures.keeps.journal c.header-header.ensures.sound.since_opened
    c.header-header.ensures.sound.since_broken c.header-header.ensures.sound.landed c.header-header.ensures.sound.unbroken

pub returns-clause-fault : goal.returns-clause-fault
returns-clause-fault g c =
    decide_fault c.args.lane c.args.replies.now c.args.log.now.broken (sight c.args.log.now) (sight c.decide-answer.new.self) c.decide-answer.result
    c.decide-answer.ensures.fault c.decide-answer.ensures.keeps.journal c.header-header.ensures.sound.since_opened
    c.header-header.ensures.sound.since_broken c.header-header.ensures.sound.landed c.header-header.ensures.sound.unbroken

pub returns-clause-stamp : goal.returns-clause-stamp
returns-clause-stamp g c =
    decide_stamp c.decide-answer.result c.decide-answer.ensures.bound

pub returns-clause-phase : goal.returns-clause-phase
returns-clause-phase g c =
    decide_phase c.args.lane c.decide-answer.new.out.items (sight c.args.log.now) (sight c.decide-answer.new.self) c.decide-answer.result
    c.decide-answer.ensures.appended

pub returns-clause-written : goal.returns-clause-written
returns-clause-written g c =
    decide_written c.args.lane c.decide-answer.new.out.items (sight c.args.log.now) (sight c.decide-answer.new.self) c.decide-answer.result
    c.decide-answer.ensures.appended

pub returns-clause-outcomes : goal.returns-clause-outcomes
returns-clause-outcomes g c =
    c.decide-answer.ensures.count

pub returns-clause-others : goal.returns-clause-others
returns-clause-others g c =
    decide_rest c.args.lane c.decide-answer.new.out.items (sight c.args.log.now) (sight c.decide-answer.new.self) c.decide-answer.result
    c.decide-answer.ensures.appended c.decide-answer.ensures.as_before

pub returns-clause-node : goal.returns-clause-node
returns-clause-node g c =
    still_decided false c.args.log.now.broken (λ r. commit_due c.args.log.now.header.shape c.args.replies.now r None c.args.log.now.journal)
    (sight c.args.log.now) (sight c.decide-answer.new.self) c.decide-answer.result c.decide-answer.ensures.keeps.node
    c.decide-answer.ensures.fault c.decide-answer.ensures.whole c.header-header.ensures.sound.landed

pub returns-clause-later : goal.returns-clause-later
returns-clause-later g c =
    c.decide-answer.ensures.keeps.node.later

pub returns-clause-holds : goal.returns-clause-holds
returns-clause-holds g c =
    λ h. record { journal = c.decide-answer.ensures.keeps.journal; held = c.decide-answer.ensures.keeps.holds h.held }

pub returns-clause-moves : goal.returns-clause-moves
returns-clause-moves g c =
    decided_moves c.args.lane c.args.log.now.header.shape c.args.replies.now (sight c.args.log.now) (sight c.decide-answer.new.self)
    c.args.log.now.broken c.decide-answer.new.self.broken c.decide-answer.new.out.items
    c.header-header.ensures.sound.landed c.header-after.ensures.sound.landed c.decide-answer.ensures.own c.decide-answer.result
    c.decide-answer.ensures.appended c.decide-answer.ensures.whole c.decide-answer.ensures.keeps.broken c.decide-answer.ensures.fault
