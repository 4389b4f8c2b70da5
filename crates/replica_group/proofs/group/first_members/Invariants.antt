use Rattle.std.proofs.Common.{◌≡◌, true, replicate}
use Rattle.shard_replica.specs.Groups.{Member}
use Rattle.replica_group.proofs.group.first_members.Given as goal

-- those so far
abbrev pub invariant-members : goal.invariant-members
invariant-members l = l.members.items ≡ replicate {A = Member} l.b (record { inside = true; term = 1; records = l.records })
