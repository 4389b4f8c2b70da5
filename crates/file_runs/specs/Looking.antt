-- What an auditor saw of a ledger's journals beside a wave.
use Rattle.std.specs.Prelude.{◌≡◌, ◌<◌, ℕ, List, length, reverse}
use Rattle.std.specs.Global.{Vec}
use Rattle.cbdc_model.specs.Records.{Shape, Header, Record}
use Rattle.cbdc_model.specs.Ranges.{node_count}
use Rattle.cbdc_model.specs.Lanes.{IsEnd}
use Rattle.node_journal.specs.Nodes.{NodeOf}
use Rattle.lane_waves.specs.declared.watching.Watch.{Watch}
use Rattle.lane_waves.specs.Watchers.{IfSaw, list_at}
use Rattle.file_runs.specs.Ledgers.{IsLedger, node_journals}

-- a list for each node, the oldest record first: each is a beginning of the node's journal, and none is empty
pub record AreLooks (K : Shape) (X : ℕ → List Record) (lists : List (Vec Record)) : Type 0 where
  pub many : length lists ≡ node_count K
  pub fronts : (n : ℕ) → n < node_count K → IsEnd (reverse (list_at lists n)) (X n)
  pub some : (n : ℕ) → n < node_count K → 0 < length (list_at lists n)

-- these are a ledger's nodes, and what an auditor saw, where it is kept, are looks at their journals
pub record IsWatchedLedger {D : Type 0} (h : Header) (logs shards : List (NodeOf D)) (watch : Watch) : Type 0 where
  pub ledger : IsLedger h logs shards
  pub looks : IfSaw watch (AreLooks h.shape (node_journals h.shape logs shards))
