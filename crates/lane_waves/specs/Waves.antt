-- What a wave is asked, and what comes of its lanes at their seats.
use Rattle.std.specs.Prelude.{◌≡◌, ◌<◌, ℕ, List, Option, length}
use Rattle.std.specs.Global.{Vec}
use Rattle.outside.specs.declared.disk.Disk.{Ghosts}
use Rattle.cbdc_model.specs.Records.{Shape}
use Rattle.cbdc_model.specs.Ranges.{shard_node}
use Rattle.cbdc_model.specs.Sights.{Sight}
use Rattle.ledger_runs.specs.Lanes.{LaneOf}
use Rattle.node_lock.specs.declared.lock.Guarded.{Guarded}
use Rattle.node_lock.specs.declared.seat.Seat.{Seat}
use Rattle.node_ports.specs.Nodes.{IsNodeHeld}
use Rattle.port_sets.specs.declared.coordinators.SharedLog.{SharedLog}
use Rattle.port_sets.specs.declared.locking.SharedShard.{SharedShard}
use Rattle.thread_laws.specs.Running.{LaneRan}
use Rattle.thread_laws.specs.Whole.{EachPair}
use Rattle.lane_waves.specs.NodeRows.{HaveAllSeats}
use Rattle.lane_waves.specs.Among.{hands_at}
use Rattle.lane_waves.specs.Deals.{log_at, shard_at}

-- the nodes are those of a ledger of this shape, in order
pub record AreNodesOf (K : Shape) (logs shards : ℕ → Sight) : Type 0 where
  pub logs_are : (n : ℕ) → n < K.coordinators → ((logs n).header.shape ≡ K) × ((logs n).header.node ≡ n)
  pub shards_are : (s : ℕ) → s < K.shards → ((shards s).header.shape ≡ K) × ((shards s).header.node ≡ shard_node K s)

-- what stays true of a coordinator under its wrapper, whatever is asked of it: that its disk holds its journal, if it did
abbrev pub log_goes : {D : Type 0} → Ghosts D → SharedLog D → SharedLog D → Type 0
log_goes device a b = IsNodeHeld device a.node → IsNodeHeld device b.node

-- what stays true of a shard under its wrapper, whatever is asked of it: what its type keeps
abbrev pub shard_goes : {S : Type 0} → (S → S → Type 0) → SharedShard S → SharedShard S → Type 0
shard_goes goes a b = goes a.node b.node

-- all lanes have ended at seats of these locks, and all seats are back
pub record AreThrough {D S : Type 0} (sight : S → Sight) (K : Shape) (gs : List (Guarded (SharedLog D))) (hs : List (Guarded (SharedShard S)))
    (homes : List (Vec (Seat (SharedLog D)))) (rows : List (Vec (Seat (SharedShard S)))) (lanes lanes' : List LaneOf) : Type 0 where
  pub homes_ready : HaveAllSeats gs homes
  pub rows_ready : HaveAllSeats hs rows
  pub many : length lanes' ≡ length lanes
  pub lanes_ran : EachPair (LaneRan K (log_at gs) (shard_at sight hs) (hands_at homes) (hands_at rows)) lanes lanes'
