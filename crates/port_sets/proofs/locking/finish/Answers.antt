use Rattle.port_sets.proofs.Owning.{finish_moves}
use Rattle.port_sets.proofs.locking.finish.Goals as goal

pub returns-clause-moves : goal.returns-clause-moves
returns-clause-moves g c = finish_moves c.args.call.now (g.S.Shard.sight c.args.node.now) (g.S.Shard.sight c.finish.new.self) c.finish.result
    c.finish.ensures.gives.told
