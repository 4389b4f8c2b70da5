-- What a lane's run sees through its ports to its coordinator and to the shards, and what it keeps of them.
use Rattle.std.specs.Prelude.{◌≡◌, ℕ, List, length}
use Rattle.std.specs.List.{All}
use Rattle.cbdc_model.specs.Sights.{Sight}
use Rattle.lane_driver.specs.Told.{KeepNodes}
use Rattle.lane_driver.specs.Keeping.{KeepsLog}
use Rattle.lane_driver.specs.Showing.{LaneSights}
use Rattle.lane_driver.specs.declared.port.LogPort.{Ghosts as LogGhosts}
use Rattle.lane_driver.specs.declared.port.ShardPort.{Ghosts as ShardGhosts}
use Rattle.lane_driver.specs.declared.port.Ports.{Ports}
use Rattle.node_ports.specs.Nodes.{sight_at}
use Rattle.lane_waves.specs.declared.seats.SeatSet.{SeatSet}

-- there are as many; each goes to the node that it went to, what held of them holds, and each lane that they served they serve
pub record KeepsPorts {P : Type 0} (sight : P → Sight) (holds : P → Type 0) (serves : P → ℕ → Type 0) (old new : List P) : Type 0 where
  pub count_same : length new ≡ length old
  pub nodes : KeepNodes (sight_at sight old) (sight_at sight new)
  pub held : All holds old → All holds new
  pub served : (l : ℕ) → All (λ p. serves p l) old → All (λ p. serves p l) new

-- what a lane sees through its seats
abbrev pub seat_sights : {W X P L : Type 0} → LogGhosts L → ShardGhosts P → Ports (SeatSet W X P) L → LaneSights
seat_sights log shard ports =
    record {
      home = log.sights ports.log (log.at ports.log);
      logs = log.sights ports.log;
      shards = sight_at shard.sight ports.shards.each.ports.items;
    }

-- this holds of the lane's coordinator and of the shards, as the seats show them
abbrev pub SeatsShow : {W X P L : Type 0} → LogGhosts L → ShardGhosts P → Ports (SeatSet W X P) L → (Sight → (ℕ → Sight) → Type 0) → Type 0
SeatsShow log shard ports holds = holds (log.sights ports.log (log.at ports.log)) (sight_at shard.sight ports.shards.each.ports.items)

-- this holds from what the seats show before to what they show behind
abbrev pub SeatsTell : {W X P L : Type 0} → LogGhosts L → ShardGhosts P → Ports (SeatSet W X P) L → Ports (SeatSet W X P) L
    → (LaneSights → LaneSights → Type 0) → Type 0
SeatsTell log shard old new holds = holds (seat_sights log shard old) (seat_sights log shard new)

-- what the calls of a lane keep of its seats
pub record KeepsSeats {W X P L : Type 0} (log : LogGhosts L) (shard : ShardGhosts P) (old new : Ports (SeatSet W X P) L) : Type 0 where
  pub to_log : KeepsLog log.at log.header log.count log.sights log.faults log.holds old.log new.log
  pub to_shards : KeepsPorts shard.sight shard.holds shard.serves old.shards.each.ports.items new.shards.each.ports.items
