use Rattle.std.proofs.Common.{◌≡◌, ℕ, replicate}
use Rattle.replica_group.proofs.group.zeroes.Given as goal

-- the zeroes so far
abbrev pub invariant-members : goal.invariant-members
invariant-members l = l.all.items ≡ replicate {A = ℕ} l.b 0
