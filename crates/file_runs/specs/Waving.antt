-- What is said of the nodes of a ledger behind a wave of its lanes.
use Rattle.std.specs.Prelude.{◌≡◌, ◌*◌, List, length, All}
use Rattle.outside.specs.declared.disk.Disk.{Ghosts}
use Rattle.cbdc_model.specs.Records.{Header}
use Rattle.cbdc_model.specs.After.{IsJournal}
use Rattle.node_journal.specs.Nodes.{NodeOf, sight}
use Rattle.node_ports.specs.Nodes.{sight_at, IsNodeHeld}
use Rattle.ledger_runs.specs.Waving.{NoFault}
use Rattle.ledger_runs.specs.Lanes.{LaneOf}
use Rattle.thread_laws.specs.Running.{WaveRan}
use Rattle.thread_laws.specs.Whole.{WaveSays}
use Rattle.lane_waves.specs.Laws.{WentOn}
use Rattle.file_runs.specs.Ledgers.{LedgerOf, IsLedger, FliesNext, ledger_journals, ledger_flights, ledger_faults, ledger_opened, ledger_capacity}
use Rattle.file_runs.specs.Ledgers.{IsChecked, IsLedgerQuiet, KeepsLedgerOf}

-- from a ledger to what it is behind the wave: it is a ledger still; all that is said of a wave; checked journals stay checked; where no lane
-- stopped, and nothing was in flight before, nothing is; and what a call keeps of a ledger's nodes is kept
pub record IsWave {D : Type 0} (device : Ghosts D) (before after : LedgerOf D)
    (old new : List LaneOf) : Type 0 where
  pub ledger : IsLedger after.header after.logs after.shards
  pub says : WaveSays before.header.shape (ledger_journals before) (ledger_journals after) (ledger_flights before) (ledger_flights after)
      (ledger_opened after) (ledger_faults after) (ledger_capacity after) old new
  pub checked : IsChecked before → IsChecked after
  pub quiet : NoFault new → IsLedgerQuiet before → IsLedgerQuiet after
  pub keeps_ledger : KeepsLedgerOf device before after

module _ {D : Type 0} (device : Ghosts D) (h : Header) (logs shards : List (NodeOf D)) (logs' : List (NodeOf D)) (shards' : List (NodeOf D))
    (old new : List LaneOf) where
  -- so it is where a wave ran at a ledger's nodes, each of which went on from what it was, with a journal of its header and what may come next in
  -- flight
  abbrev pub LedgerWaveLaw : Type 0
  LedgerWaveLaw = IsLedger h logs shards → length old ≡ h.shape.coordinators * h.shape.lanes
      → WaveRan h.shape (sight_at sight logs) (sight_at sight shards) (sight_at sight logs') (sight_at sight shards') old new
      → WentOn sight (λ a b. IsNodeHeld device a → IsNodeHeld device b) logs logs'
      → WentOn sight (λ a b. IsNodeHeld device a → IsNodeHeld device b) shards shards'
      → All (λ l. IsJournal l.header l.journal) logs' → All FliesNext logs' → All (λ s. IsJournal s.header s.journal) shards' → All FliesNext shards'
      → IsWave device (record { header = h; logs = logs; shards = shards }) (record { header = h; logs = logs'; shards = shards' }) old new
