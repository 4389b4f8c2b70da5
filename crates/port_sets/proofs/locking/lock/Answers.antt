use Rattle.port_sets.proofs.Owning.{lock_moves}
use Rattle.port_sets.proofs.locking.lock.Goals as goal

pub returns-clause-moves : goal.returns-clause-moves
returns-clause-moves g c =
    let s = g.S.Shard.sight c.args.node.now in
    lock_moves s.header.shape s.capacity c.args.call.now s (g.S.Shard.sight c.lock.new.self) c.lock.result c.lock.ensures.gives.told
