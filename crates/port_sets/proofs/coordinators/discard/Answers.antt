use Rattle.node_journal.specs.Nodes.{sight}
use Rattle.port_sets.proofs.Owning.{discard_moves}
use Rattle.port_sets.proofs.coordinators.discard.Goals as goal

pub returns-clause-moves : goal.returns-clause-moves
returns-clause-moves g c = discard_moves c.args.lane c.args.cause (sight c.args.log.now) (sight c.discard_at.new.log) c.discard_at.result
    c.discard_at.ensures.told
