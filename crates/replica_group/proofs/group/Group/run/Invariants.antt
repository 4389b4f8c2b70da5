use Rattle.std.proofs.Common.{take}
use Rattle.shard_replica.specs.Steps.{Run}
use Rattle.replica_group.proofs.group.Group.run.Given as goal

-- the events so far
abbrev pub invariant-events : goal.invariant-events
invariant-events l = Run l.fn.self (take l.event-index l.events) l.self
