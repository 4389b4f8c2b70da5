use Rattle.std.proofs.Common.{◌≡◌, ◌≤◌, ◌+◌, ◌*◌, length, vec_len}
use Rattle.std.specs.Prelude.{All, vec_capacity}
use Rattle.lane_waves.specs.Places.{AllFrom}
use Rattle.lane_waves.specs.Deals.{AreLanesWaiting, HaveSeats, IsHomeFresh, IsEmptyRoom, AreRunsNumbered}
use Rattle.lane_waves.proofs.dealing.deal_all.Given as goal

abbrev pub invariant-loop-own : goal.invariant-loop-own
invariant-loop-own g l = record {
  many : length l.homes.items + length l.emptied.items ≡ l.shape.coordinators;
  homes : AllFrom (IsHomeFresh l.shape l.log_locks) 0 l.homes.items;
  homes_room : vec_capacity l.homes ≡ vec_capacity l.fn.homes;
  place : l.shape.coordinators ≤ vec_capacity l.emptied;
  emptied : All (IsEmptyRoom l.shape.lanes) l.emptied.items;
  waiting : AreLanesWaiting g.S.Shard.sight l.shard_locks (length l.homes.items * l.shape.lanes) l.table;
  dealt : HaveSeats g.S.Shard.sight g.B.Locks.tables l.shape l.log_locks l.shard_locks (length l.homes.items * l.shape.lanes) l.fn.table.lanes.items
      l.table;
  numbered : AreRunsNumbered l.shape.coordinators l.table.runs.items;
}

abbrev pub decreases-loop-own : goal.decreases-loop-own
decreases-loop-own g l = vec_len l.homes
