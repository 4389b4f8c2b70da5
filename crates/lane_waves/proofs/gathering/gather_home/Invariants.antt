use Rattle.std.proofs.Common.{◌≡◌, ◌≤◌, ◌+◌, List, length}
use Rattle.std.specs.Vec.{vec_capacity, vec_len}
use Rattle.node_lock.specs.declared.lock.Guarded.{Guarded}
use Rattle.port_sets.specs.declared.locking.SharedShard.{SharedShard}
use Rattle.lane_waves.specs.Gathers.{MayGather, AreHome, RunsGathered}
use Rattle.lane_waves.proofs.gathering.gather_home.Given as goal

abbrev pub invariant-loop-place : goal.invariant-loop-place
invariant-loop-place g l = record {
  some : l.count ≤ length l.table.runs.items + l._place;
  len : vec_len l.own ≡ l._place;
  capacity : vec_capacity l.own ≡ vec_capacity l.fn.own;
  room : MayGather l.table;
  rooms : l.table.rooms ≡ l.fn.table.rooms;
  home : AreHome l._place l.fn.table l.own.items l.table;
  gathered : (locks : List (Guarded (SharedShard _))) (all : _) → RunsGathered locks all l.fn.table → RunsGathered locks all l.table;
}
