use Rattle.node_journal.specs.Nodes.{sight}
use Rattle.port_sets.proofs.Owning.{done_moves}
use Rattle.port_sets.proofs.coordinators.done.Goals as goal

pub returns-clause-moves : goal.returns-clause-moves
returns-clause-moves g c = done_moves c.args.lane c.args.cause (sight c.args.log.now) (sight c.done_at.new.log) c.done_at.result
    c.done_at.ensures.told
