-- What a lane's driver leaves at the nodes of a ledger, whatever it came to.
use Rattle.std.specs.Prelude.{ℕ, ◌≤◌, List}
use Rattle.outside.specs.declared.disk.Disk.{Ghosts}
use Rattle.cbdc_model.specs.Records.{Header}
use Rattle.node_journal.specs.Nodes.{NodeOf, sight}
use Rattle.node_ports.specs.Nodes.{sight_at}
use Rattle.lane_driver.specs.Told.{KeepNodes}
use Rattle.run_laws.specs.Turns.{Elsewhere}
use Rattle.ledger_runs.specs.Turning.{KeepsLanes}
use Rattle.thread_laws.specs.Nodes.{AreNext}
use Rattle.file_runs.specs.Ledgers.{IsLedger, node_journals, faults_of, AreStored}

-- they are the ledger's still, each what it was; no other coordinator is touched, and no other lane; what is in flight may come next; what their
-- disks held they hold, and no disk has failed less often
pub record IsStep {D : Type 0} (device : Ghosts D) (h : Header) (lane : ℕ)
    (logs shards : List (NodeOf D)) (logs' : List (NodeOf D)) (shards' : List (NodeOf D)) : Type 0 where
  pub ledger : IsLedger h logs' shards'
  pub log_nodes : KeepNodes (sight_at sight logs) (sight_at sight logs')
  pub shard_nodes : KeepNodes (sight_at sight shards) (sight_at sight shards')
  pub elsewhere : Elsewhere h.shape lane (sight_at sight logs) (sight_at sight logs')
  pub others : KeepsLanes h.shape lane (node_journals h.shape logs shards) (node_journals h.shape logs' shards')
  pub next : AreNext h.shape (sight_at sight logs') (sight_at sight shards')
  pub stored : AreStored device logs shards → AreStored device logs' shards'
  pub later : (n : ℕ) → faults_of h.shape logs shards n ≤ faults_of h.shape logs' shards' n
