-- A lane of a wave before and behind its run: what it says of itself, and that its seats are those of the wave's locks.
use Rattle.std.specs.Prelude.{◌≡◌, ℕ, false, List, [], length, All, Option, Some, None, Result, IfOk, OnOk}
use Rattle.cbdc_model.specs.Records.{Shape}
use Rattle.cbdc_model.specs.Slots.{Idle}
use Rattle.cbdc_model.specs.Grammar.{IsCompact}
use Rattle.cbdc_model.specs.Ranges.{home_of}
use Rattle.cbdc_model.specs.Sights.{Sight}
use Rattle.lane_driver.specs.Told.{IsLane, AreShardsOf, KeepNodes}
use Rattle.lane_driver.specs.Stops.{IsLaneSettled}
use Rattle.lane_driver.specs.Reports.{IsReported}
use Rattle.lane_driver.specs.Showing.{LaneSights}
use Rattle.lane_driver.specs.Outcomes.{LaneResult}
use Rattle.lane_driver.specs.declared.fault.LaneFault.{LaneFault}
use Rattle.lane_driver.specs.declared.fault.LaneReport.{LaneReport}
use Rattle.node_lock.specs.Seats.{TableId, knows, table_of}
use Rattle.node_ports.specs.Nodes.{sight_at}
use Rattle.port_sets.specs.declared.tables.Locks.{Ghosts}
use Rattle.port_sets.specs.Nodes.{shard_sight, log_sight}
use Rattle.port_sets.specs.Seated.{seat_sight, seen_at, seat_phase, Serves}
use Rattle.port_sets.specs.declared.seated.ShardSeat.{ShardSeat}
use Rattle.lane_waves.specs.declared.runs.LaneRun.{LaneRun}

-- each port takes the lane's calls
abbrev pub TakeCallsOf : {W S B : Type 0} {G : Ghosts B} → (S → Sight) → ℕ → List (ShardSeat W S B G) → Type 0
TakeCallsOf sight lane ports = All (λ p. Serves (shard_sight sight) p.guarded.now p.seat lane) ports

module _ {W D S B X : Type 0} {G : Ghosts B} (sight : S → Sight) (tables : ℕ → TableId) (K : Shape) where
  -- its seats are those of the wave's locks: of a shard, by the number in its header
  pub record IsSeated (r : LaneRun W D S B X G) : Type 0 where
    pub log : table_of r.ports.log.guarded.now ≡ tables r.ports.log.node
    pub shards : All (λ p. table_of p.guarded.now ≡ tables (seat_sight (shard_sight sight) p.seat).header.node) r.ports.shards.each.ports.items

  -- what a lane's run has seen of the coordinators: of its own what its seat knows, of another nothing
  abbrev pub logs_of : LaneRun W D S B X G → ℕ → Sight
  logs_of r n = seen_at r.ports.log.node (seat_sight (log_sight {D = D}) r.ports.log.seat) n

  -- what a lane's run has seen of its own coordinator
  abbrev pub log_of : LaneRun W D S B X G → Sight
  log_of r = logs_of r r.ports.log.node

  -- what a lane's run has seen of the shards, through its seat of each
  abbrev pub shards_of : LaneRun W D S B X G → ℕ → Sight
  shards_of r = sight_at (λ p. seat_sight (shard_sight sight) p.seat) r.ports.shards.each.ports.items

  -- all of that
  abbrev pub sights_of : LaneRun W D S B X G → LaneSights
  sights_of r = record { home = log_of r; logs = logs_of r; shards = shards_of r }

  -- a run before its first call: seats of the wave's locks, of its own lane, at the nodes of the ledger; an idle, settled lane; transactions within
  -- the limits
  pub record RunBegins (r : LaneRun W D S B X G) : Type 0 where
    pub seated : IsSeated r
    pub at : r.ports.log.node ≡ home_of K r.lane
    pub home : IsLane (seat_sight (log_sight {D = D}) r.ports.log.seat).header r.lane
    pub shape : (seat_sight (log_sight {D = D}) r.ports.log.seat).header.shape ≡ K
    pub idle : seat_phase (knows r.ports.log.seat).lane (seat_sight (log_sight {D = D}) r.ports.log.seat) r.lane ≡ Idle
    pub count_is : length r.ports.shards.each.ports.items ≡ K.shards
    pub ledger : AreShardsOf K (shards_of r)
    pub settled : IsLaneSettled K r.lane (log_of r) (shards_of r)
    pub ours : TakeCallsOf sight r.lane r.ports.shards.each.ports.items
    pub limits : All IsCompact r.work.txs

  -- what a run came to; where it has done all its lane is idle, and it reports an outcome for each transaction
  pub record HasCome (r q : LaneRun W D S B X G) (came : Result LaneReport LaneFault) : Type 0 where
    pub outcome : LaneResult K false r.lane r.work.txs r.work.repeats came (sights_of r) (sights_of q)
    pub idle : OnOk came (seat_phase (knows q.ports.log.seat).lane (seat_sight (log_sight {D = D}) q.ports.log.seat) r.lane ≡ Idle)
    pub named : IfOk came (λ report. IsReported r.lane K.batch r.work.txs [] report.batches)

  -- it has run, and that is known
  abbrev pub HasRun : LaneRun W D S B X G → LaneRun W D S B X G → Option (Result LaneReport LaneFault) → Type 0
  HasRun r q None = ⊥
  HasRun r q (Some came) = HasCome r q came

  -- a run behind its last call: the same lane, transactions, locks and nodes, and `HasRun`
  pub record RunEnds (r q : LaneRun W D S B X G) : Type 0 where
    pub seated : IsSeated q
    pub lane : q.lane ≡ r.lane
    pub work : q.work ≡ r.work
    pub at : q.ports.log.node ≡ r.ports.log.node
    pub count_is : length q.ports.shards.each.ports.items ≡ length r.ports.shards.each.ports.items
    pub of_lane : (lane : ℕ) → TakeCallsOf sight lane r.ports.shards.each.ports.items → TakeCallsOf sight lane q.ports.shards.each.ports.items
    pub own_lane : (knows q.ports.log.seat).lane ≡ (knows r.ports.log.seat).lane
    pub log_nodes : KeepNodes (logs_of r) (logs_of q)
    pub nodes : KeepNodes (shards_of r) (shards_of q)
    pub has_run : HasRun r q q.came
