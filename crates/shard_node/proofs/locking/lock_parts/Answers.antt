use Rattle.shard_node.proofs.Keeps.{made_room}
use Rattle.shard_node.proofs.locking.lock_parts.Goals as goal

pub append_lock-requires-clause-shard : goal.append_lock-requires-clause-shard
append_lock-requires-clause-shard g c = made_room c.args.parts.now c.plan_lock.new.self c.requires.shard c.plan_lock.ensures.same

pub returns-in-Ok-Kept-clause-shard : goal.returns-in-Ok-Kept-clause-shard
returns-in-Ok-Kept-clause-shard g c = made_room c.args.parts.now c.plan_lock.new.self c.requires.shard c.plan_lock.ensures.same

pub returns-in-Ok-Refused-clause-shard : goal.returns-in-Ok-Refused-clause-shard
returns-in-Ok-Refused-clause-shard g c = made_room c.args.parts.now c.plan_lock.new.self c.requires.shard c.plan_lock.ensures.same

pub returns-in-Err-clause-shard : goal.returns-in-Err-clause-shard
returns-in-Err-clause-shard g c = made_room c.args.parts.now c.plan_lock.new.self c.requires.shard c.plan_lock.ensures.same
