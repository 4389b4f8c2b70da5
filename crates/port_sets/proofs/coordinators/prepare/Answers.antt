use Rattle.node_journal.specs.Nodes.{sight}
use Rattle.port_sets.proofs.Owning.{prepare_moves}
use Rattle.port_sets.proofs.coordinators.prepare.Goals as goal

pub returns-clause-moves : goal.returns-clause-moves
returns-clause-moves g c = prepare_moves c.args.log.now.header.shape c.args.log.now.capacity c.args.lane c.args.txs.now (sight c.args.log.now)
    (sight c.prepare_at.new.log) c.prepare_at.result c.prepare_at.ensures.told
