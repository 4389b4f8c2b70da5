-- The nodes of a ledger, open.
use Rattle.std.specs.Prelude.{◌≡◌, ℕ, ◌-◌, ◌<◌, nat_lt, if◌then◌else◌, List, length, Option, None, IfSome, All}
use Rattle.outside.specs.declared.disk.Disk.{Ghosts}
use Rattle.cbdc_types.specs.Limits.{IsWithinLimits}
use Rattle.cbdc_model.specs.Records.{Shape, Header, Record}
use Rattle.cbdc_model.specs.Ranges.{shard_node}
use Rattle.cbdc_model.specs.After.{After, IsJournal}
use Rattle.cbdc_model.specs.History.{Minted, header_of}
use Rattle.node_journal.specs.Nodes.{NodeOf, sight, HoldsJournal}
use Rattle.node_ports.specs.Nodes.{sight_at}
use Rattle.ledger_runs.specs.Keeping.{KeepsLedger}
use Rattle.run_laws.specs.Runs.{seen_by}
use Rattle.run_laws.specs.Checked.{CheckedJournals}
use Rattle.run_laws.specs.Faults.{opened_by, capacity_by}
use Rattle.run_laws.specs.Flights.{flying}

-- as many coordinators and shards as the ledger's shape has, each under its own header, with a journal of it
pub record IsLedger {D : Type 0} (h : Header) (logs shards : List (NodeOf D)) : Type 0 where
  pub limits : IsWithinLimits h.shape
  pub coordinators : length logs ≡ h.shape.coordinators
  pub shards_are : length shards ≡ h.shape.shards
  pub log_headers : (n : ℕ) → n < h.shape.coordinators → (sight_at sight logs n).header ≡ header_of h.shape h.genesis n
  pub shard_headers : (s : ℕ) → s < h.shape.shards → (sight_at sight shards s).header ≡ header_of h.shape h.genesis (shard_node h.shape s)
  pub log_journals : All (λ l. IsJournal l.header l.journal) logs
  pub shard_journals : All (λ s. IsJournal s.header s.journal) shards

-- what contracts see of a ledger: its header, which is that of node 0, and its nodes
pub record LedgerOf (D : Type 0) : Type 0 where
  pub header : Header
  pub logs : List (NodeOf D)
  pub shards : List (NodeOf D)

-- the journals of all nodes, the coordinators first
abbrev pub node_journals : {D : Type 0} → Shape → List (NodeOf D) → List (NodeOf D) → ℕ → List Record
node_journals K logs shards = seen_by K (sight_at sight logs) (sight_at sight shards)

-- how often the disk of each node has failed
abbrev pub faults_of : {D : Type 0} → Shape → List (NodeOf D) → List (NodeOf D) → ℕ → ℕ
faults_of K logs shards n =
    if nat_lt n K.coordinators then (sight_at sight logs n).faults else (sight_at sight shards (n - K.coordinators)).faults

-- how often it had when the node was opened
abbrev pub opened_of : {D : Type 0} → Shape → List (NodeOf D) → List (NodeOf D) → ℕ → ℕ
opened_of K logs shards = opened_by K (sight_at sight logs) (sight_at sight shards)

-- how many bytes it may hold
abbrev pub capacity_of : {D : Type 0} → Shape → List (NodeOf D) → List (NodeOf D) → ℕ → ℕ
capacity_of K logs shards = capacity_by K (sight_at sight logs) (sight_at sight shards)

-- the record in flight at each node, if there is one
abbrev pub flights_of : {D : Type 0} → Shape → List (NodeOf D) → List (NodeOf D) → ℕ → Option Record
flights_of K logs shards = flying K (sight_at sight logs) (sight_at sight shards)

-- the node's record in flight, if there is one, may come next there
abbrev pub FliesNext : {D : Type 0} → NodeOf D → Type 0
FliesNext n = IfSome n.flight (After n.header n.journal)

-- each record of the journals is after those before it, and caused
abbrev pub HaveCheckedJournals : {D : Type 0} → Shape → List (NodeOf D) → List (NodeOf D) → Type 0
HaveCheckedJournals K logs shards = (m : Minted) × CheckedJournals K m (node_journals K logs shards)

-- each node's disk holds its journal
pub record AreStored {D : Type 0} (device : Ghosts D) (logs shards : List (NodeOf D)) : Type 0 where
  pub logs_are : All (HoldsJournal device) logs
  pub shards_are : All (HoldsJournal device) shards

-- no node has a record in flight
pub record AreQuiet {D : Type 0} (logs shards : List (NodeOf D)) : Type 0 where
  pub logs_are : (n : ℕ) → (sight_at sight logs n).flight ≡ None
  pub shards_are : (s : ℕ) → (sight_at sight shards s).flight ≡ None

-- ---- a ledger by its own shape

module _ {D : Type 0} where
  -- the journal of each node of a ledger, by the ledger's own shape
  abbrev pub ledger_journals : LedgerOf D → ℕ → List Record
  ledger_journals l = node_journals l.header.shape l.logs l.shards

  -- the record in flight at each node of a ledger, if there is one
  abbrev pub ledger_flights : LedgerOf D → ℕ → Option Record
  ledger_flights l = flights_of l.header.shape l.logs l.shards

  -- how often the disk of each node of a ledger has failed
  abbrev pub ledger_faults : LedgerOf D → ℕ → ℕ
  ledger_faults l = faults_of l.header.shape l.logs l.shards

  -- how often the disk of each node of a ledger had failed when the node was opened
  abbrev pub ledger_opened : LedgerOf D → ℕ → ℕ
  ledger_opened l = opened_of l.header.shape l.logs l.shards

  -- how many bytes the disk of each node of a ledger may hold
  abbrev pub ledger_capacity : LedgerOf D → ℕ → ℕ
  ledger_capacity l = capacity_of l.header.shape l.logs l.shards

  -- each record of its journals is after those before it, and caused
  abbrev pub IsChecked : LedgerOf D → Type 0
  IsChecked l = HaveCheckedJournals l.header.shape l.logs l.shards

-- the disk of each node of a ledger holds the node's journal
abbrev pub IsLedgerStored : {D : Type 0} → Ghosts D → LedgerOf D → Type 0
IsLedgerStored device l = AreStored device l.logs l.shards

-- no node of a ledger has a record in flight
abbrev pub IsLedgerQuiet : {D : Type 0} → LedgerOf D → Type 0
IsLedgerQuiet l = AreQuiet l.logs l.shards

-- what a call keeps of a ledger's nodes
module _ {D : Type 0} (device : Ghosts D) where
  -- `KeepsLedger` (ledger_runs) of a ledger's nodes: what their disks held they hold
  abbrev pub KeepsLedgerOf : LedgerOf D → LedgerOf D → Type 0
  KeepsLedgerOf before after =
      KeepsLedger (λ (l : LedgerOf D). l.header.shape) ledger_opened ledger_faults ledger_capacity (IsLedgerStored device) before after
