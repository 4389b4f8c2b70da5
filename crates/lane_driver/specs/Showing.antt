-- What ports show of the nodes behind them, and what calls keep of them: a port's ghost members are one argument.
use Rattle.std.specs.Prelude.{◌≡◌, ℕ, true}
use Rattle.cbdc_model.specs.Sights.{Sight}
use Rattle.lane_driver.specs.Told.{KeepsOtherLanes}
use Rattle.lane_driver.specs.Keeping.{KeepsLog, KeepsShards}
use Rattle.lane_driver.specs.declared.port.LogPort.{Ghosts as LogGhosts}
use Rattle.lane_driver.specs.declared.port.PortSet.{Ghosts as SetGhosts}
use Rattle.lane_driver.specs.declared.port.Ports.{Ports}

-- what is seen of the lane's own coordinator, of all coordinators and of all shards
pub record LaneSights : Type 0 where
  pub home : Sight
  pub logs : ℕ → Sight
  pub shards : ℕ → Sight

-- what a lane's ports show
abbrev pub lane_sights : {S L G : Type 0} → LogGhosts L → SetGhosts S G → Ports S L → LaneSights
lane_sights log set ports = record { home = log.sights ports.log (log.at ports.log); logs = log.sights ports.log; shards = set.sights ports.shards }

-- this holds of the lane's coordinator and of the shards, as the ports show them
abbrev pub PortsShow : {S L G : Type 0} → LogGhosts L → SetGhosts S G → Ports S L → (Sight → (ℕ → Sight) → Type 0) → Type 0
PortsShow log set ports P = P (log.sights ports.log (log.at ports.log)) (set.sights ports.shards)

-- this holds from what the ports show before to what they show behind
abbrev pub PortsTell : {S L G : Type 0} → LogGhosts L → SetGhosts S G → Ports S L → Ports S L → (LaneSights → LaneSights → Type 0) → Type 0
PortsTell log set old new P = P (lane_sights log set old) (lane_sights log set new)

-- what the calls of a lane keep of its ports: they go to the same nodes, and where no other lane's records come between them, the other lanes of its
-- coordinator are as before
pub record KeepsLanePorts {S L G : Type 0} (log : LogGhosts L) (set : SetGhosts S G) (lane : ℕ) (old new : Ports S L) : Type 0 where
  pub to_log : KeepsLog log.at log.header log.count log.sights log.faults log.holds old.log new.log
  pub to_shards : KeepsShards set.count set.sights set.faults set.holds set.serves old.shards new.shards
  pub others : log.alone ≡ true → KeepsOtherLanes (log.header old.log) lane (log.phase old.log) (log.phase new.log) (log.open_txs old.log)
      (log.open_txs new.log)
