use Rattle.node_journal.specs.Nodes.{sight}
use Rattle.std.proofs.Common.{true, None, sym}
use Rattle.std.proofs.lemmas.List.Elements.{All-weaker}
use Rattle.cbdc_model.specs.Grammar.{IsCompact}
use Rattle.cbdc_model.specs.Due.{prepare_due}
use Rattle.coord_log.specs.Logs.{HasShortLists}
use Rattle.node_ports.proofs.Owed.{still_node}
use Rattle.node_ports.proofs.Coordinators.{told_alone, later_of, prepare_named, prepare_phase, prepare_txs, prepare_rest}
use Rattle.node_ports.proofs.logs.prepare_at.Goals as goal

pub prepare-requires-clause-own : goal.prepare-requires-clause-own
prepare-requires-clause-own g c =
    sym c.requires.home.1

pub prepare-requires-clause-some : goal.prepare-requires-clause-some
prepare-requires-clause-some g c =
    c.requires.size.0

pub prepare-requires-clause-limit : goal.prepare-requires-clause-limit
prepare-requires-clause-limit g c =
    c.requires.size.1

pub prepare-requires-clause-short : goal.prepare-requires-clause-short
prepare-requires-clause-short g c =
    All-weaker IsCompact HasShortLists (λ t is. (is.inputs.0, is.outputs.0)) c.args.txs.now c.requires.limits

pub returns-clause-told : goal.returns-clause-told
returns-clause-told g c =
    told_alone c.args.lane true (prepare_due c.args.log.now.header.shape c.args.log.now.capacity c.args.lane c.args.txs.now) c.args.log.now.broken
    (sight c.args.log.now) (sight c.prepare.new.self) c.prepare.result c.prepare.ensures.meets c.prepare.ensures.keeps.journal
    c.header-header.ensures.sound.since_opened c.header-header.ensures.sound.since_broken c.header-header.ensures.sound.landed
    c.header-header.ensures.sound.unbroken

pub returns-clause-prepared : goal.returns-clause-prepared
returns-clause-prepared g c =
    prepare_named c.args.lane c.args.txs.now c.args.log.now.broken (sight c.args.log.now) (sight c.prepare.new.self) c.prepare.result
    c.prepare.ensures.meets c.prepare.ensures.keeps.journal

pub returns-clause-phase : goal.returns-clause-phase
returns-clause-phase g c =
    prepare_phase c.args.lane c.args.txs.now c.args.log.now.broken (sight c.args.log.now) (sight c.prepare.new.self) c.prepare.result
    c.prepare.ensures.meets

pub returns-clause-txs : goal.returns-clause-txs
returns-clause-txs g c =
    prepare_txs c.args.lane c.args.txs.now c.args.log.now.broken (sight c.args.log.now) (sight c.prepare.new.self) c.prepare.result
    c.prepare.ensures.meets

pub returns-clause-others : goal.returns-clause-others
returns-clause-others g c =
    prepare_rest c.args.lane c.args.txs.now c.args.log.now.broken (sight c.args.log.now) (sight c.prepare.new.self) c.prepare.result
    c.prepare.ensures.meets

pub returns-clause-node : goal.returns-clause-node
returns-clause-node g c =
    still_node true c.args.log.now.broken (prepare_due c.args.log.now.header.shape c.args.log.now.capacity c.args.lane c.args.txs.now None
    c.args.log.now.journal) (sight c.args.log.now) (sight c.prepare.new.self) c.prepare.result c.prepare.ensures.meets
    c.header-header.ensures.sound.landed

pub returns-clause-later : goal.returns-clause-later
returns-clause-later g c =
    later_of true (prepare_due c.args.log.now.header.shape c.args.log.now.capacity c.args.lane c.args.txs.now c.args.log.now.broken
    c.args.log.now.journal) (sight c.args.log.now) (sight c.prepare.new.self) c.prepare.result c.prepare.ensures.meets

pub returns-clause-holds : goal.returns-clause-holds
returns-clause-holds g c =
    λ h. record { journal = c.prepare.ensures.keeps.journal; held = c.prepare.ensures.keeps.holds h.held }
