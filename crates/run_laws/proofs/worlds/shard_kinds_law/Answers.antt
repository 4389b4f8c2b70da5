use Rattle.run_laws.proofs.worlds.shard_kinds_law.Goals as goal
use Rattle.run_laws.proofs.ShardKinds as laws

pub returns : goal.returns
returns c = laws.shard_kinds_law
