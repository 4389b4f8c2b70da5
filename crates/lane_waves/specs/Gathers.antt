-- Seats given back by the lanes of a wave, the first lane first. Of runs in a list the last one is that of the first lane.
use Rattle.std.specs.Prelude.{◌≡◌, ◌⊎◌, ◌≤◌, ◌+◌, ℕ, List, [], ◌∷◌, ◌++◌, map, length, reverse, Option, Some, None, Result, IfOk, vec_capacity}
use Rattle.std.specs.List.{AllZip}
use Rattle.std.specs.Global.{Vec}
use Rattle.cbdc_model.specs.Records.{Shape}
use Rattle.cbdc_model.specs.Sights.{Sight}
use Rattle.lane_driver.specs.declared.fault.LaneFault.{LaneFault}
use Rattle.lane_driver.specs.declared.fault.LaneReport.{LaneReport}
use Rattle.ledger_runs.specs.Lanes.{LaneOf}
use Rattle.node_lock.specs.declared.lock.Guarded.{Guarded}
use Rattle.node_lock.specs.declared.seat.Seat.{Seat}
use Rattle.node_lock.specs.Seats.{TableId}
use Rattle.port_sets.specs.declared.coordinators.SharedLog.{SharedLog}
use Rattle.port_sets.specs.declared.locking.SharedShard.{SharedShard}
use Rattle.port_sets.specs.declared.tables.Locks.{Ghosts}
use Rattle.thread_laws.specs.Telling.{told_in}
use Rattle.lane_waves.specs.Dealing.{PopsEach}
use Rattle.lane_waves.specs.NodeRows.{AreSeatsBack, AreOf}
use Rattle.lane_waves.specs.Held.{RunEnds}
use Rattle.lane_waves.specs.Ports.{seats_of}
use Rattle.lane_waves.specs.declared.runs.LaneRun.{LaneRun}
use Rattle.lane_waves.specs.Lanes.{IsLaneReady, IsResultKept}
use Rattle.lane_waves.specs.declared.dealing.Table.{Table}

module _ {N : Type 0} where
  -- the seat is one of these
  abbrev pub IsSeat : Seat N → List (Seat N) → Type 0
  IsSeat s [] = ⊥
  IsSeat s (t ∷ ts) = (t ≡ s) ⊎ IsSeat s ts

  -- each seat is in its list
  abbrev pub AreSeats : List (Seat N) → List (Vec (Seat N)) → Type 0
  AreSeats [] [] = Unit {0}
  AreSeats (s ∷ ss) (r ∷ rs) = IsSeat s r.items × AreSeats ss rs
  AreSeats ss rs = ⊥

-- each list has room for so many more
abbrev pub EachTakes : {T : Type 0} → ℕ → List (Vec T) → Type 0
EachTakes n [] = Unit {0}
EachTakes n (r ∷ rs) = (length r.items + n ≤ vec_capacity r) × EachTakes n rs

-- the result of a run is known, and the lane has room for it
abbrev pub MayKeep : LaneOf → Option (Result LaneReport LaneFault) → Type 0
MayKeep x None = ⊥
MayKeep x (Some came) = IfOk came (λ report. length (told_in report.batches) ≤ length x.txs)

-- what a lane became when its run ended: its result is known, and is kept with it
abbrev pub IsLaneEnd : LaneOf → Option (Result LaneReport LaneFault) → LaneOf → Type 0
IsLaneEnd x None y = ⊥
IsLaneEnd x (Some came) y = IsResultKept x came y

module _ {W D S B X : Type 0} {G : Ghosts B} where
  -- a run's seats of the shards
  abbrev pub shard_seats : LaneRun W D S B X G → List (Seat (SharedShard S))
  shard_seats r = seats_of r.ports.shards.each.ports.items

  -- a run's seat of its coordinator
  abbrev pub home_seat : LaneRun W D S B X G → Seat (SharedLog D)
  home_seat r = r.ports.log.seat

  -- a run that has ended: its result is known
  pub record IsOver (shards : ℕ) (r : LaneRun W D S B X G) : Type 0 where
    pub many : length r.ports.shards.each.ports.items ≡ shards
    pub ready : IsLaneReady r.work
    pub came : MayKeep r.work r.came

  -- so have all
  abbrev pub AllOver : ℕ → List (LaneRun W D S B X G) → Type 0
  AllOver shards [] = Unit {0}
  AllOver shards (r ∷ rs) = IsOver shards r × AllOver shards rs

  -- the runs of a table were made, each to its end, and its other lists are as before
  pub record AreRun (sight : S → Sight) (tables : ℕ → TableId) (K : Shape) (t u : Table W D S B X G) : Type 0 where
    pub runs : Vec (LaneRun W D S B X G)
    pub rest : u ≡ record t { runs = runs }
    pub ends : AllZip (RunEnds sight tables K) t.runs.items runs.items

  -- there is room for all seats and lanes that are not back
  pub record MayGather (t : Table W D S B X G) : Type 0 where
    pub rows_take : EachTakes (length t.runs.items) t.rows.items
    pub seats : (t.seats.items ≡ []) × (length t.rows.items ≤ vec_capacity t.seats)
    pub spare : (t.spare.items ≡ []) × (length t.rows.items ≤ vec_capacity t.spare)
    pub lanes_take : length t.lanes.items + length t.runs.items ≤ vec_capacity t.lanes
    pub over : AllOver (length t.rows.items) t.runs.items

  -- the last run was taken apart
  pub record IsRunBack (t : Table W D S B X G) (home : Seat (SharedLog D)) (u : Table W D S B X G) : Type 0 where
    pub run : LaneRun W D S B X G
    pub runs : t.runs.items ≡ u.runs.items ++ run ∷ []
    pub home_is : home ≡ home_seat run
    pub rows : PopsEach u.rows.items t.rows.items (shard_seats run)
    pub lane : LaneOf
    pub lanes : u.lanes.items ≡ t.lanes.items ++ lane ∷ []
    pub came : IsLaneEnd run.work run.came lane

  -- so many runs were, and these are their seats of their coordinator
  pub record AreHome (n : ℕ) (t : Table W D S B X G) (own : List (Seat (SharedLog D))) (u : Table W D S B X G) : Type 0 where
    pub gone : List (LaneRun W D S B X G)
    pub runs : t.runs.items ≡ u.runs.items ++ gone
    pub many : length gone ≡ n
    pub seats : reverse own ≡ map home_seat gone

  -- each of these runs gave its seats of the shards back
  abbrev pub AllGave : List (LaneRun W D S B X G) → List (Vec (Seat (SharedShard S))) → Type 0
  AllGave [] rows = Unit {0}
  AllGave (r ∷ rs) rows = AreSeats (shard_seats r) rows × AllGave rs rows

  -- each had seats of these locks
  abbrev pub AllOf : List (Guarded (SharedShard S)) → List (LaneRun W D S B X G) → Type 0
  AllOf locks [] = Unit {0}
  AllOf locks (r ∷ rs) = AreOf locks (shard_seats r) × AllOf locks rs

  -- of these runs, whose seats are of these locks, those that are not in the list any more are back, with their lanes
  pub record RunsGathered (locks : List (Guarded (SharedShard S))) (all : List (LaneRun W D S B X G)) (t : Table W D S B X G) : Type 0 where
    pub gone : List (LaneRun W D S B X G)
    pub all_are : all ≡ t.runs.items ++ gone
    pub of : AllOf locks all
    pub back : AreSeatsBack (length gone) locks t.rows.items
    pub gave : AllGave gone t.rows.items
    pub lanes : AllZip (λ r x. IsLaneEnd r.work r.came x) gone (reverse t.lanes.items)

  -- so many runs for each of these lists of seats, in their order; each list has the seats of its runs at their coordinator, the last first
  abbrev pub Chunks : ℕ → List (Vec (Seat (SharedLog D))) → List (LaneRun W D S B X G) → Type 0
  Chunks n [] runs = runs ≡ []
  Chunks n (own ∷ owns) runs = (chunk : List (LaneRun W D S B X G)) × (rest : List (LaneRun W D S B X G)) × (runs ≡ chunk ++ rest)
      × (length chunk ≡ n) × (reverse own.items ≡ map home_seat chunk) × Chunks n owns rest

  -- so many runs for each of these lists of seats, the last list first; each list has the seats of its runs at their coordinator
  abbrev pub HomesBack : ℕ → List (LaneRun W D S B X G) → List (Vec (Seat (SharedLog D))) → Type 0
  HomesBack n runs homes = Chunks n (reverse homes) runs
