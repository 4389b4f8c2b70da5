use Rattle.std.proofs.Common.{arith}
use Rattle.port_sets.specs.Nodes.{log_sight, shard_sight}
use Rattle.lane_waves.proofs.Locking.{locked_ready, just_fresh, all_still, all_same}
use Rattle.lane_waves.specs.Waves.{log_goes, shard_goes}
use Rattle.lane_waves.proofs.Places.{as_many}
use Rattle.lane_waves.proofs.Waving.{locks_many}
use Rattle.lane_waves.proofs.waves.lock_nodes.Goals as goal

pub returns-in-Err-clause-logs_back : goal.returns-in-Err-clause-logs_back
returns-in-Err-clause-logs_back g c = all_same log_sight (log_goes g.D.Disk) (λ n held. held) c.args.nodes.logs.items

pub returns-in-Err-clause-shards_back : goal.returns-in-Err-clause-shards_back
returns-in-Err-clause-shards_back g c = c.in-Err.ensures.back

pub close_all-shards-requires-clause-ready : goal.close_all-shards-requires-clause-ready
close_all-shards-requires-clause-ready g c = locked_ready (shard_sight g.S.Shard.sight) c.args.nodes.shards.items c.args.shard_rows.items
    c.in-Ok.locked.locks.items c.in-Ok.locked.seats.items c.in-Ok.ensures.locked

pub close_all-shards-requires-clause-room : goal.close_all-shards-requires-clause-room
close_all-shards-requires-clause-room g c =
    let same = locks_many (shard_sight g.S.Shard.sight) c.args.nodes.shards.items c.args.shard_rows.items c.in-Ok.locked.locks.items
    c.in-Ok.locked.seats.items c.in-Ok.ensures.locked in
    let room = c.in-Ok.ensures.room.1 in
    omega (arith, same, room)

pub returns-in-Err-lock_all-clause-shards_back : goal.returns-in-Err-lock_all-clause-shards_back
returns-in-Err-lock_all-clause-shards_back g c =
    all_still (shard_sight g.S.Shard.sight) (shard_goes g.S.Shard.goes) c.args.nodes.shards.items c.args.shard_rows.items c.in-Ok.locked.locks.items
    c.in-Ok.locked.seats.items c.close_all-shards.result.items c.in-Ok.ensures.locked c.close_all-shards.ensures.closed

pub lock_all-requires-clause-count : goal.lock_all-requires-clause-count
lock_all-requires-clause-count g c = as_many c.args.shard_rows c.args.nodes.shards c.requires.shards_many

pub lock_all-requires-clause-fit : goal.lock_all-requires-clause-fit
lock_all-requires-clause-fit g c = c.requires.shards_fit

pub lock_all-requires-2-clause-count : goal.lock_all-requires-2-clause-count
lock_all-requires-2-clause-count g c = as_many c.args.home_rows c.args.nodes.logs c.requires.logs_many

pub lock_all-requires-2-clause-fit : goal.lock_all-requires-2-clause-fit
lock_all-requires-2-clause-fit g c = c.requires.logs_fit

pub close_all-shards-requires-clause-empty : goal.close_all-shards-requires-clause-empty
close_all-shards-requires-clause-empty g c = c.in-Ok.ensures.room.0

pub close_all-shards-requires-clause-watching : goal.close_all-shards-requires-clause-watching
close_all-shards-requires-clause-watching g c = just_fresh (shard_sight g.S.Shard.sight) c.args.watcher c.in-Ok.locked.locks.items
    c.in-Ok.locked.watchers.items c.in-Ok.ensures.watchers
