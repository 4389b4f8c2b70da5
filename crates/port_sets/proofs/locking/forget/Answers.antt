use Rattle.port_sets.proofs.Owning.{forget_moves}
use Rattle.port_sets.proofs.locking.forget.Goals as goal

pub returns-clause-moves : goal.returns-clause-moves
returns-clause-moves g c = forget_moves c.args.call.now (g.S.Shard.sight c.args.node.now) (g.S.Shard.sight c.forget.new.self) c.forget.result
    c.forget.ensures.gives.told
