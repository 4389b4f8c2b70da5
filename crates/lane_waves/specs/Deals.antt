-- Seats dealt to the lanes of a wave, the last lane first.
use Rattle.std.specs.Prelude.{◌≡◌, ◌≤◌, ◌<◌, ◌+◌, ◌*◌, ℕ, List, [], ◌∷◌, ◌++◌, All, length, reverse, slice_get, Some, vec_capacity}
use Rattle.std.specs.Global.{Vec}
use Rattle.cbdc_types.specs.Limits.{IsWithinLimits}
use Rattle.cbdc_model.specs.Records.{Shape}
use Rattle.cbdc_model.specs.Grammar.{IsCompact}
use Rattle.cbdc_model.specs.Ranges.{home_of, shard_node}
use Rattle.cbdc_model.specs.Sights.{Sight}
use Rattle.lane_driver.specs.Stops.{IsLaneSettled}
use Rattle.ledger_runs.specs.Lanes.{LaneOf}
use Rattle.node_lock.specs.declared.lock.Guarded.{Guarded}
use Rattle.node_lock.specs.declared.seat.Seat.{Seat}
use Rattle.node_lock.specs.Seats.{TableId, AreFresh, knows, opening_of, table_of}
use Rattle.node_lock.specs.Tickets.{fresh}
use Rattle.node_lock.specs.Viewing.{viewed}
use Rattle.node_ports.specs.Nodes.{sight_at}
use Rattle.port_sets.specs.Nodes.{shard_sight, log_sight}
use Rattle.port_sets.specs.declared.coordinators.SharedLog.{SharedLog}
use Rattle.port_sets.specs.declared.locking.SharedShard.{SharedShard}
use Rattle.port_sets.specs.declared.logged.LogSeat.{LogSeat}
use Rattle.port_sets.specs.declared.tables.Locks.{Ghosts}
use Rattle.lane_waves.specs.NodeRows.{AreLeft, AreDealt, lanes_of}
use Rattle.lane_waves.specs.Held.{RunBegins, log_of, shards_of}
use Rattle.lane_waves.specs.Ports.{ArePorts, AreNumbered, AtTables}
use Rattle.lane_waves.specs.declared.runs.LaneRun.{LaneRun}
use Rattle.lane_waves.specs.Lanes.{IsLaneReady}
use Rattle.lane_waves.specs.Places.{AllFrom, BothFrom}
use Rattle.lane_waves.specs.Rows.{lanes_from, home_lanes, all_lanes}
use Rattle.lane_waves.specs.declared.dealing.Table.{Table}

-- a lane that is ready, and whose transactions are within the limits
pub record MayRun (x : LaneOf) : Type 0 where
  pub ready : IsLaneReady x
  pub limits : All IsCompact x.txs

-- each list has room for so many items in all
abbrev pub EachHolds : {T : Type 0} → ℕ → List (Vec T) → Type 0
EachHolds n [] = Unit {0}
EachHolds n (r ∷ rs) = (n ≤ vec_capacity r) × EachHolds n rs

-- an empty list
abbrev pub IsNone : {T : Type 0} → Vec T → Type 0
IsNone r = r.items ≡ []

-- an empty list with room for so many
abbrev pub IsEmptyRoom : {T : Type 0} → ℕ → Vec T → Type 0
IsEmptyRoom n r = (r.items ≡ []) × (n ≤ vec_capacity r)

-- a node as it was at the opening of its lock, seen through a seat that made no call
abbrev pub started : ℕ → Sight → Sight
started lane first = viewed first (fresh first lane)

module _ {W D S B X : Type 0} {G : Ghosts B} where
  -- so many lanes have no seats yet, and there is room for theirs
  pub record HasRoomForSeats (shards n : ℕ) (t : Table W D S B X G) : Type 0 where
    pub rows : length t.rows.items ≡ shards
    pub rows_hold : EachHolds (length t.runs.items + n) t.rows.items
    pub seats : (t.seats.items ≡ []) × (shards ≤ vec_capacity t.seats)
    pub spare : (t.spare.items ≡ []) × (shards ≤ vec_capacity t.spare)
    pub rooms : All (IsEmptyRoom shards) t.rooms.items
    pub rooms_many : length t.rooms.items ≡ n
    pub lanes : All MayRun t.lanes.items
    pub lanes_many : length t.lanes.items ≡ n
    pub lanes_hold : length t.runs.items + n ≤ vec_capacity t.lanes
    pub runs_hold : length t.runs.items + n ≤ vec_capacity t.runs

  -- so many lanes wait for their seats: these are left of each lock, and there is room for them
  pub record AreLanesWaiting (sight : S → Sight) (hs : List (Guarded (SharedShard S))) (n : ℕ) (t : Table W D S B X G) : Type 0 where
    pub room : HasRoomForSeats (length hs) n t
    pub left : AreLeft (shard_sight sight) (lanes_from 0 n) hs t.rows.items

  -- the last lane got its seats: that of its coordinator, and a fresh one of each shard
  pub record IsLaneSeated (sight : S → Sight) (hs : List (Guarded (SharedShard S))) (home : LogSeat W D B G) (t u : Table W D S B X G) : Type 0 where
    pub run : LaneRun W D S B X G
    pub runs : u.runs.items ≡ t.runs.items ++ run ∷ []
    pub lanes : t.lanes.items ≡ u.lanes.items ++ run.work ∷ []
    pub lane : run.lane ≡ (knows home.seat).lane
    pub log : run.ports.log ≡ home
    pub seats : List (Seat (SharedShard S))
    pub dealt : AreDealt (shard_sight sight) (knows home.seat).lane hs seats
    pub ports : ArePorts hs seats run.ports.shards.each.ports.items

  -- of each of these runs: its ports over shards tell gates the numbers of nodes from this one on
  abbrev pub AreRunsNumbered : ℕ → List (LaneRun W D S B X G) → Type 0
  AreRunsNumbered first runs = All (λ r. AreNumbered first r.ports.shards.each.ports.items) runs

module _ {D : Type 0} where
  -- the seats that are left of a coordinator are those of its first lanes
  abbrev pub IsHomeLeft : Shape → ℕ → List (Guarded (SharedLog D)) → List (Seat (SharedLog D)) → Type 0
  IsHomeLeft K home gs ss = (g : Guarded (SharedLog D)) → slice_get gs home ≡ Some g
      → AreFresh (log_sight (opening_of g)) (opening_of g) (table_of g) (lanes_from (home * K.lanes) (length ss)) ss

  -- all of its lanes
  abbrev pub IsHomeFresh : Shape → List (Guarded (SharedLog D)) → ℕ → Vec (Seat (SharedLog D)) → Type 0
  IsHomeFresh K gs home ss = (length ss.items ≡ K.lanes) × IsHomeLeft K home gs ss.items

-- an open node of the ledger, at its place, whose disk has failed no less often than when it was opened
pub record IsOpenNodeAt (K : Shape) (n : ℕ) (s : Sight) : Type 0 where
  pub shape : s.header.shape ≡ K
  pub node : s.header.node ≡ n
  pub since : s.opened ≤ s.faults

-- each coordinator as it was at the opening of its lock
abbrev pub log_at : {D : Type 0} → List (Guarded (SharedLog D)) → ℕ → Sight
log_at gs = sight_at (λ g. log_sight (opening_of g)) gs

-- each shard as it was at the opening of its lock
abbrev pub shard_at : {S : Type 0} → (S → Sight) → List (Guarded (SharedShard S)) → ℕ → Sight
shard_at sight hs = sight_at (λ h. shard_sight sight (opening_of h)) hs

module _ {D S : Type 0} (sight : S → Sight) (tables : ℕ → TableId) (K : Shape) (gs : List (Guarded (SharedLog D)))
    (hs : List (Guarded (SharedShard S))) where
  -- the locks are of the ledger's nodes, each for the lanes that ask it; all lanes are settled there; and the wave's picks are these locks
  pub record AreLocksOpen : Type 0 where
    pub limits : IsWithinLimits K
    pub logs_many : length gs ≡ K.coordinators
    pub shards_many : length hs ≡ K.shards
    pub logs : AllFrom (λ n g. IsOpenNodeAt K n (log_sight (opening_of g))) 0 gs
    pub shards : AllFrom (λ s h. IsOpenNodeAt K (shard_node K s) (shard_sight sight (opening_of h))) 0 hs
    pub settled : (lane : ℕ) → lane < K.coordinators * K.lanes → IsLaneSettled K lane (log_at gs (home_of K lane)) (shard_at sight hs)
    pub log_lanes : AllFrom (λ n g. lanes_of g ≡ home_lanes K n) 0 gs
    pub shard_lanes : AllFrom (λ s h. lanes_of h ≡ all_lanes K) 0 hs
    pub log_tables : AllFrom (λ n g. tables n ≡ table_of g) 0 gs
    pub shard_tables : AtTables tables K 0 hs

  module _ {W B X : Type 0} {G : Ghosts B} where
    -- the run of a lane that has all its seats, before its first call
    pub record IsSetUp (lane : ℕ) (x : LaneOf) (r : LaneRun W D S B X G) : Type 0 where
      pub lane_is : r.lane ≡ lane
      pub work : r.work ≡ x
      pub ready : IsLaneReady x
      pub begins : RunBegins sight tables K r
      pub mine : (knows r.ports.log.seat).lane ≡ lane
      pub log : log_of sight tables K r ≡ started lane (log_at gs (home_of K lane))
      pub shards : (s : ℕ) → shards_of sight tables K r s ≡ started lane (shard_at sight hs s)

    -- of these lanes those from the n-th on have their seats
    pub record HaveSeats (n : ℕ) (lanes : List LaneOf) (t : Table W D S B X G) : Type 0 where
      pub done : List LaneOf
      pub all_are : lanes ≡ t.lanes.items ++ done
      pub set_up : BothFrom IsSetUp n done (reverse t.runs.items)
