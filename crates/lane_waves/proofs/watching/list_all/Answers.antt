use Rattle.lane_waves.proofs.Looking.{looked_self}
use Rattle.lane_waves.proofs.watching.list_all.Goals as goal

pub returns-in_err-list_logs-clause-shards : goal.returns-in_err-list_logs-clause-shards
returns-in_err-list_logs-clause-shards g c = (c.requires.shards, looked_self c.args.shard_seats.now)
