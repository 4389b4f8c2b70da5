use Rattle.std.proofs.Common.{◌≡◌}
use Rattle.shard_replica.specs.Groups.{hellos, promoted}
use Rattle.replica_group.proofs.group.Group.hellos_of.Given as goal

-- those to the members so far
abbrev pub invariant-members : goal.invariant-members
invariant-members l = l.all.items ≡ hellos (promoted l.self l.b) l.b l.term l.place l.last l.n
