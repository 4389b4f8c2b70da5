use Rattle.std.proofs.Common.{List, [], ◌∷◌, ◌++◌, vec_len}
use Rattle.node_lock.proofs.Dealing.{Collected}
use Rattle.node_lock.proofs.lock.Guarded.joined.Given as goal

abbrev pub invariant-loop-token : goal.invariant-loop-token
invariant-loop-token g l = Collected l.self.table.shared.table_id (l.fn.seats.items ++ l.fn.main ∷ []) l.seats.items l.main.table_id l.main.me

abbrev pub decreases-loop-token : goal.decreases-loop-token
decreases-loop-token g l = vec_len l.seats
