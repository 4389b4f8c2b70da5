use Rattle.lane_waves.proofs.Looking.{not_watched}
use Rattle.lane_waves.proofs.runs.run_beside.Goals as goal

pub returns-clause-watched : goal.returns-clause-watched
returns-clause-watched g c = not_watched c.args.log_locks.now c.args.shard_locks.now c.args.watcher.now c.requires.watch
