-- A wave of lanes at the nodes of a ledger, as what runs it sees it: each node from the making of its lock to its closing, and each lane from its
-- first call to its last.
use Rattle.std.specs.Prelude.{◌≡◌, ◌⊎◌, ℕ, ◌*◌, ◌<◌, ◌≤◌, List, [], length, None}
use Rattle.cbdc_types.specs.Limits.{IsWithinLimits}
use Rattle.cbdc_model.specs.Records.{Shape}
use Rattle.cbdc_model.specs.Ranges.{home_of}
use Rattle.cbdc_model.specs.History.{Minted}
use Rattle.cbdc_model.specs.World.{AreIdle}
use Rattle.cbdc_model.specs.Sights.{Sight}
use Rattle.lane_driver.specs.Stops.{IsLaneSettled}
use Rattle.run_laws.specs.Checked.{CheckedJournals}
use Rattle.run_laws.specs.Runs.{seen_by}
use Rattle.run_laws.specs.Faults.{opened_by, faults_by, capacity_by}
use Rattle.run_laws.specs.Flights.{flying}
use Rattle.thread_laws.specs.Nodes.{AreNodes, AreNext}
use Rattle.ledger_runs.specs.Turning.{IsLaneOf}
use Rattle.ledger_runs.specs.Lanes.{LaneOf}
use Rattle.node_lock.specs.declared.views.Hand.{Hand}
use Rattle.node_lock.specs.Moving.{Same}
use Rattle.node_lock.specs.Tickets.{times, Done}
use Rattle.thread_laws.specs.Sitting.{SitsAt}
use Rattle.thread_laws.specs.Whole.{LaneHasEnded, EachPair, WaveSays}

-- a node whose lock was made with a seat for each of these lanes, and closed with these hands
pub record NodeRan (first : Sight) (lanes : List ℕ) (hands : List Hand) (last : Sight) : Type 0 where
  pub apart : (x : ℕ) → times x lanes ≤ 1
  pub done : Done first lanes hands last
  pub same : Same first last

-- a lane with a seat at its coordinator and at each shard, from fresh seats on, and how it ended
pub record LaneRan (K : Shape) (logs shards : ℕ → Sight) (log_hands shard_hands : ℕ → List Hand) (lane : ℕ) (old new : LaneOf) : Type 0 where
  pub log : Sight
  pub seen : ℕ → Sight
  pub log' : Sight
  pub seen' : ℕ → Sight
  pub settled : IsLaneSettled K lane log seen
  pub at_log : SitsAt lane (logs (home_of K lane)) (log_hands (home_of K lane)) log log'
  pub at_shard : (s : ℕ) → s < K.shards → SitsAt lane (shards s) (shard_hands s) (seen s) (seen' s)
  pub beyond : (s : ℕ) → K.shards ≤ s → ((seen s).seen ≡ []) × ((seen s).flight ≡ None) × ((seen' s).seen ≡ [])
  pub txs : new.txs ≡ old.txs
  pub ended : LaneHasEnded K lane log seen log' seen' old new

-- a wave: each coordinator has seats for lanes of its own, each shard for any, each node has run, and so has each lane
pub record WaveRan (K : Shape) (logs shards logs' shards' : ℕ → Sight) (old new : List LaneOf) : Type 0 where
  pub log_lanes : ℕ → List ℕ
  pub log_hands : ℕ → List Hand
  pub shard_lanes : ℕ → List ℕ
  pub shard_hands : ℕ → List Hand
  pub log_ran : (n : ℕ) → n < K.coordinators → NodeRan (logs n) (log_lanes n) (log_hands n) (logs' n)
  pub shard_ran : (s : ℕ) → s < K.shards → NodeRan (shards s) (shard_lanes s) (shard_hands s) (shards' s)
  pub log_drawn : (n l : ℕ) → n < K.coordinators → 0 < times l (log_lanes n) → IsLaneOf K l × (home_of K l ≡ n)
  pub shard_drawn : (s l : ℕ) → s < K.shards → 0 < times l (shard_lanes s) → IsLaneOf K l
  pub count : length new ≡ length old
  pub lanes : EachPair (LaneRan K logs shards log_hands shard_hands) old new

-- a node that was asked nothing is as it was, and nothing new is in flight
pub record IsStillSight (old new : Sight) : Type 0 where
  pub same : Same old new
  pub seen : new.seen ≡ old.seen
  pub flight : (new.flight ≡ None) ⊎ (new.flight ≡ old.flight)
  pub later : old.faults ≤ new.faults

-- what is known of the nodes: before and behind the wave each journal is one of its node's header; what is in flight behind
-- it may come next there; and beyond the last shard there is nothing
pub record WaveNodes (K : Shape) (logs shards logs' shards' : ℕ → Sight) : Type 0 where
  pub limits : IsWithinLimits K
  pub before : AreNodes K logs shards
  pub behind : AreNodes K logs' shards'
  pub next : AreNext K logs' shards'
  pub log_shapes : (n : ℕ) → n < K.coordinators → (logs n).header.shape ≡ K
  pub shard_shapes : (s : ℕ) → s < K.shards → (shards s).header.shape ≡ K
  pub beyond : (s : ℕ) → K.shards ≤ s → shards' s ≡ shards s

-- what is said of the nodes
pub record NodesSay (K : Shape) (logs shards logs' shards' : ℕ → Sight) : Type 0 where
  pub log_headers : (n : ℕ) → n < K.coordinators → (logs' n).header ≡ (logs n).header
  pub shard_headers : (s : ℕ) → s < K.shards → (shards' s).header ≡ (shards s).header
  pub later : (n : ℕ) → faults_by K logs shards n ≤ faults_by K logs' shards' n
  pub opened_same : (n : ℕ) → opened_by K logs' shards' n ≡ opened_by K logs shards n
  pub capacity_same : (n : ℕ) → capacity_by K logs' shards' n ≡ capacity_by K logs shards n

-- all that is said of a wave, and of the nodes at which it ran
abbrev pub AllSays : Shape → (ℕ → Sight) → (ℕ → Sight) → (ℕ → Sight) → (ℕ → Sight) → List LaneOf → List LaneOf → Type 0
AllSays K logs shards logs' shards' old new =
    WaveSays K (seen_by K logs shards) (seen_by K logs' shards') (flying K logs shards) (flying K logs' shards') (opened_by K logs' shards')
    (faults_by K logs' shards') (capacity_by K logs' shards') old new
    × NodesSay K logs shards logs' shards'

-- so it is where lanes ran
abbrev pub WaveRanLaw : Type 0
WaveRanLaw = (K : Shape) (logs shards logs' shards' : ℕ → Sight) (old new : List LaneOf) → WaveNodes K logs shards logs' shards'
    → length old ≡ K.coordinators * K.lanes
    → WaveRan K logs shards logs' shards' old new → AllSays K logs shards logs' shards' old new

-- a lane's fresh seats are settled, where the journals are checked and all lanes are idle
abbrev pub FreshSettledLaw : Type 0
FreshSettledLaw = (K : Shape) (m : Minted) (logs shards : ℕ → Sight) (lane : ℕ) (log : Sight) (seen : ℕ → Sight) → IsWithinLimits K → IsLaneOf K lane
    → ((n : ℕ) → n < K.coordinators → (logs n).header.shape ≡ K) → CheckedJournals K m (seen_by K logs shards) → AreIdle K (seen_by K logs shards)
    → (log.header ≡ (logs (home_of K lane)).header) × (log.seen ≡ (logs (home_of K lane)).seen) → ((s : ℕ) → (seen s).seen ≡ (shards s).seen)
    → IsLaneSettled K lane log seen
