use Rattle.std.proofs.Common.{◌≡◌}
use Rattle.node_lock.specs.Seats.{knows, IsSeatOf}
use Rattle.lock_rows.proofs.lanes.write_lent.Given as goal

abbrev pub invariant-loop-i : goal.invariant-loop-i
invariant-loop-i g l = IsSeatOf l.guarded l.seat × ((knows l.seat).lane ≡ l.lane)
