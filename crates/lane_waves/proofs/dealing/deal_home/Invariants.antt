use Rattle.std.proofs.Common.{◌≡◌, ◌≤◌, ◌+◌, ◌*◌, List, length, vec_len}
use Rattle.std.specs.Prelude.{vec_capacity}
use Rattle.ledger_runs.specs.Lanes.{LaneOf}
use Rattle.lane_waves.specs.Deals.{AreLanesWaiting, HaveSeats, IsHomeLeft, AreRunsNumbered}
use Rattle.lane_waves.proofs.dealing.deal_home.Given as goal

abbrev pub invariant-loop-seat : goal.invariant-loop-seat
invariant-loop-seat g l = record {
  many : length l.own.items ≤ l.shape.lanes;
  own : IsHomeLeft l.shape l.home l.log_locks l.own.items;
  capacity : vec_capacity l.own ≡ vec_capacity l.fn.own;
  waiting : AreLanesWaiting g.S.Shard.sight l.shard_locks (l.home * l.shape.lanes + length l.own.items) l.table;
  dealt : (lanes : List LaneOf) → HaveSeats g.S.Shard.sight g.B.Locks.tables l.shape l.log_locks l.shard_locks
      (l.home * l.shape.lanes + length l.fn.own.items) lanes l.fn.table
      → HaveSeats g.S.Shard.sight g.B.Locks.tables l.shape l.log_locks l.shard_locks (l.home * l.shape.lanes + length l.own.items) lanes l.table;
  numbered : AreRunsNumbered l.shape.coordinators l.fn.table.runs.items → AreRunsNumbered l.shape.coordinators l.table.runs.items;
}

abbrev pub decreases-loop-seat : goal.decreases-loop-seat
decreases-loop-seat g l = vec_len l.own
