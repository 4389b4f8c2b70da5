-- All memory of a wave.
use Rattle.std.specs.Prelude.{◌≡◌, ◌*◌, List, All, length}
use Rattle.cbdc_model.specs.Records.{Shape}
use Rattle.ledger_runs.specs.Lanes.{LaneOf}
use Rattle.port_sets.specs.declared.tables.Locks.{Ghosts}
use Rattle.lane_waves.specs.Lanes.{IsLaneReady}
use Rattle.lane_waves.specs.Places.{AllFrom}
use Rattle.lane_waves.specs.Rows.{IsHomeRow, IsShardRow}
use Rattle.lane_waves.specs.Deals.{IsEmptyRoom}
use Rattle.lane_waves.specs.declared.waves.NodeRoom.{NodeRoom}
use Rattle.lane_waves.specs.declared.waves.LaneRoom.{LaneRoom}

-- the lanes that each node is to be locked for, a list for the nodes, and lanes that are ready
pub record IsNodeRoom {D S : Type 0} (K : Shape) (r : NodeRoom D S) (lanes : List LaneOf) : Type 0 where
  pub home_rows : AllFrom (IsHomeRow K) 0 r.home_rows.items
  pub home_rows_many : length r.home_rows.items ≡ K.coordinators
  pub shard_rows : AllFrom (IsShardRow K) 0 r.shard_rows.items
  pub shard_rows_many : length r.shard_rows.items ≡ K.shards
  pub logs : IsEmptyRoom K.coordinators r.nodes.logs
  pub shards : IsEmptyRoom K.shards r.nodes.shards
  pub ready : All IsLaneReady lanes

-- empty lists with room for all lanes' seats, ports and runs
pub record IsLaneRoom {W D S B X : Type 0} {G : Ghosts B} (K : Shape) (r : LaneRoom W D S B X G) : Type 0 where
  pub emptied : IsEmptyRoom K.coordinators r.emptied
  pub spare : IsEmptyRoom K.shards r.spare
  pub seats : IsEmptyRoom K.shards r.seats
  pub rooms : All (IsEmptyRoom K.shards) r.rooms.items
  pub rooms_many : length r.rooms.items ≡ K.coordinators * K.lanes
  pub runs : IsEmptyRoom (K.coordinators * K.lanes) r.runs
