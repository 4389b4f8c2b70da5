use Rattle.std.proofs.Common.{◌≡◌, ◌≤◌, ◌+◌, ◌*◌, List, length, vec_len}
use Rattle.std.specs.Prelude.{All, vec_capacity}
use Rattle.node_lock.specs.declared.lock.Guarded.{Guarded}
use Rattle.port_sets.specs.declared.locking.SharedShard.{SharedShard}
use Rattle.lane_waves.specs.Deals.{IsEmptyRoom}
use Rattle.lane_waves.specs.Gathers.{MayGather, RunsGathered}
use Rattle.lane_waves.proofs.Giving.{HomesGone}
use Rattle.lane_waves.proofs.gathering.gather_all.Given as goal

abbrev pub invariant-loop-own : goal.invariant-loop-own
invariant-loop-own g l = record {
  runs : length l.table.runs.items ≡ length l.emptied.items * l.count;
  emptied : All (IsEmptyRoom l.count) l.emptied.items;
  many : length l.emptied.items + length l.homes.items ≡ length l.fn.emptied.items;
  place : length l.emptied.items + length l.homes.items ≤ vec_capacity l.homes;
  room : MayGather l.table;
  rooms : l.table.rooms ≡ l.fn.table.rooms;
  homes : HomesGone l.count l.fn.table l.homes.items l.table;
  gathered : (locks : List (Guarded (SharedShard _))) (all : _) → RunsGathered locks all l.fn.table → RunsGathered locks all l.table;
}

abbrev pub decreases-loop-own : goal.decreases-loop-own
decreases-loop-own g l = vec_len l.emptied
