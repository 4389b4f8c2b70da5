-- Where a lane rests: its batches up to a number are over there.
use Rattle.std.specs.Prelude.{◌≡◌, ℕ, suc, ◌+◌, ◌*◌, ◌<◌, ◌≤◌, ◌==◌, if◌then◌else◌, List, [], ◌∷◌, length, All}
use Rattle.cbdc_model.specs.Records.{Shape, Record, Genesis, Lock, Finish, Forget, Start, Prepare, Commit, Discard, Done, Upgrade}
use Rattle.cbdc_model.specs.Records.{Carry, CarryStart, Seal}
use Rattle.cbdc_model.specs.Slots.{slot, slot_stamp, Idle}
use Rattle.cbdc_model.specs.Ranges.{home_of}
use Rattle.lane_driver.specs.Told.{IsLane, AreShardsOf}
use Rattle.lane_driver.specs.Stops.{IsLaneSettled}
use Rattle.node_journal.specs.Nodes.{NodeOf, sight}
use Rattle.node_ports.specs.Nodes.{sight_at}

-- the number of a record's batch, 0 of a record of no batch and of another lane's
abbrev pub number_of_lane : ℕ → Record → ℕ
number_of_lane lane (Genesis header hs) = 0
number_of_lane lane (Lock stamp b es) = if b.lane == lane then b.number else 0
number_of_lane lane (Finish stamp b ds) = if b.lane == lane then b.number else 0
number_of_lane lane (Forget stamp b) = if b.lane == lane then b.number else 0
number_of_lane lane (Start header) = 0
number_of_lane lane (Prepare stamp b txs) = if b.lane == lane then b.number else 0
number_of_lane lane (Commit stamp b os) = if b.lane == lane then b.number else 0
number_of_lane lane (Discard stamp b) = if b.lane == lane then b.number else 0
number_of_lane lane (Done stamp b) = if b.lane == lane then b.number else 0
number_of_lane lane (Upgrade stamp batch) = 0
number_of_lane lane (Carry stamp header source hs numbers) = 0
number_of_lane lane (CarryStart stamp header source numbers) = 0
number_of_lane lane (Seal stamp to shards) = 0

-- at a shard of this place, whose last record of the lane has a stamp no later than that
pub record RestsAt {D : Type 0} (K : Shape) (lane k stamp s : ℕ) (n : NodeOf D) : Type 0 where
  pub shape : n.header.shape ≡ K
  pub node : n.header.node ≡ K.coordinators + s
  pub idle : (slot n.journal lane).phase ≡ Idle
  pub number : (slot n.journal lane).number ≤ k
  pub stamp_is : slot_stamp n.journal lane ≤ stamp
  pub numbers : All (λ r. number_of_lane lane r ≤ k) n.journal

-- at all shards, of which the first has this place
abbrev pub AllRest : {D : Type 0} → Shape → ℕ → ℕ → ℕ → ℕ → List (NodeOf D) → Type 0
AllRest K lane k stamp s [] = Unit {0}
AllRest K lane k stamp s (n ∷ ns) = RestsAt K lane k stamp s n × AllRest K lane k stamp (suc s) ns

-- at its coordinator, where its last batch has this number
pub record LogRests {D : Type 0} (K : Shape) (lane k : ℕ) (l : NodeOf D) : Type 0 where
  pub shape : l.header.shape ≡ K
  pub node : l.header.node ≡ home_of K lane
  pub home : home_of K lane < K.coordinators
  pub inside : lane < K.coordinators * K.lanes
  pub idle : slot l.journal lane ≡ record { number = k; phase = Idle }
  pub numbers : All (λ r. number_of_lane lane r ≤ k) l.journal

-- a lane may be run over these nodes of a ledger, its coordinator at this place: it rests at all of them
pub record MayRunOver {D : Type 0} (K : Shape) (lane at : ℕ) (logs nodes : List (NodeOf D)) : Type 0 where
  pub lane_is : IsLane (sight_at sight logs at).header lane
  pub shape : (sight_at sight logs at).header.shape ≡ K
  pub idle : (slot (sight_at sight logs at).seen lane).phase ≡ Idle
  pub as_many : length nodes ≡ K.shards
  pub ledger : AreShardsOf K (sight_at sight nodes)
  pub settled : IsLaneSettled K lane (sight_at sight logs at) (sight_at sight nodes)
