-- A stretch of work over the nodes of a ledger: what is done, as relations between journals, and what that leaves of the nodes.
use Rattle.std.specs.Prelude.{◌≡◌, ◌≤◌, ◌++◌, ℕ, List, [], Option, Result, IfOk, IfErr, OnOk}
use Rattle.outside.specs.declared.disk.Disk.{Ghosts}
use Rattle.cbdc_model.specs.Records.{Shape, Compact, Record}
use Rattle.cbdc_model.specs.Coins.{FullTx}
use Rattle.cbdc_model.specs.Lanes.{IsEnd}
use Rattle.lane_driver.specs.declared.fault.LaneFault.{LaneFault}
use Rattle.ledger_runs.specs.Turning.{IsLaneOf, OfKept, StaysKept}
use Rattle.ledger_runs.specs.Pieces.{HasPreparedPieces}
use Rattle.ledger_runs.specs.Flying.{Launches}
use Rattle.ledger_runs.specs.Faults.{IsRunCause, HaveFailed, MayHoldBytes}
use Rattle.file_runs.specs.Ledgers.{LedgerOf, ledger_journals, ledger_flights, ledger_faults, ledger_opened, ledger_capacity, IsChecked}
use Rattle.file_runs.specs.Ledgers.{IsLedgerStored, IsLedgerQuiet}
use Rattle.file_runs.specs.Runs.{FliesWith}

-- what contracts see of a ledger's nodes: of each its journal, its record in flight, how often its disk has failed and had when it was opened, and
-- how many bytes the disk may hold; and of all that each record is caused, that none is in flight, and that each disk holds its journal
pub record LedgerSight : Type 1 where
  pub shape : Shape
  pub journals : ℕ → List Record
  pub flights : ℕ → Option Record
  pub faults : ℕ → ℕ
  pub opened : ℕ → ℕ
  pub capacity : ℕ → ℕ
  pub checked : Type 0
  pub quiet : Type 0
  pub stored : Type 0

-- of these nodes
abbrev pub ledger_sight : {D : Type 0} → Ghosts D → LedgerOf D → LedgerSight
ledger_sight device l = record {
  shape = l.header.shape;
  journals = ledger_journals l;
  flights = ledger_flights l;
  faults = ledger_faults l;
  opened = ledger_opened l;
  capacity = ledger_capacity l;
  checked = IsChecked l;
  quiet = IsLedgerQuiet l;
  stored = IsLedgerStored device l;
}

-- What is done, as relations between the journals before and behind it: the transactions that it hands in; those that may be next for a lane; what
-- was done where it came through; what has been begun, whatever came; and whose fault ended it, by the nodes whose disks have failed and by what
-- disks may hold
pub record Deed (Done : Type 0) : Type 1 where
  pub handed : List FullTx
  pub next : Shape → (ℕ → List Record) → (ℕ → List Record) → ℕ → List Compact → Type 0
  pub did : Shape → (ℕ → List Record) → (ℕ → List Record) → Done → Type 0
  pub begun : Shape → (ℕ → List Record) → (ℕ → List Record) → Type 0
  pub ends : Shape → (ℕ → List Record) → (ℕ → List Record) → (ℕ → Type 0) → (ℕ → ℕ → Type 0) → LaneFault → Type 0

-- the nodes whose disks have failed since they were opened, and what disks may hold
abbrev pub failed_at : LedgerSight → ℕ → Type 0
failed_at s = HaveFailed s.opened s.faults

abbrev pub may_hold_at : LedgerSight → ℕ → ℕ → Type 0
may_hold_at s = MayHoldBytes s.capacity

-- over a ledger of this shape, from one sight of its nodes to another
pub record StretchOf {Done : Type 0} (d : Deed Done) (K : Shape) (before now : LedgerSight) (came : Result Done LaneFault) : Type 0 where
  -- the disk of each node had failed as often when it was opened, may hold as many bytes, has failed no less often, and holds its journal if it did
  pub opened_same : (n : ℕ) → now.opened n ≡ before.opened n
  pub capacity_same : (n : ℕ) → now.capacity n ≡ before.capacity n
  pub later : (n : ℕ) → before.faults n ≤ now.faults n
  pub held : before.stored → now.stored
  pub checked : now.checked
  pub quiet : OnOk came (before.quiet → now.quiet)
  -- journals have grown at their ends; kept ones are kept, with what was handed in besides
  pub grows : (n : ℕ) → IsEnd (before.journals n) (now.journals n)
  pub keeps : OfKept K before.journals (λ mint submissions. StaysKept K before.journals now.journals mint (submissions ++ d.handed))
  -- what is in flight may come next at its node, as before; a Prepare was so before, or is next for its lane
  pub flies : OfKept K before.journals (FliesWith K d.handed before.journals now.journals before.flights now.flights)
  pub launches : Launches K (d.next K before.journals now.journals) before.journals now.journals before.flights now.flights
  pub begun : d.begun K before.journals now.journals
  pub did : IfOk came (d.did K before.journals now.journals)
  -- a fault has its cause
  pub cause : IfErr came (IsRunCause K (d.next K before.journals now.journals) before.journals now.journals (failed_at now) (may_hold_at now))
  pub ends : IfErr came (d.ends K before.journals now.journals (failed_at now) (may_hold_at now))

-- the same, over the ledger's own shape
pub record Stretch {Done : Type 0} (d : Deed Done) (before now : LedgerSight) (came : Result Done LaneFault) : Type 0 where
  pub shape_same : now.shape ≡ before.shape
  pub is : StretchOf d before.shape before now came

-- ---- one behind another

-- a deed was done from journals E to M, and another begun from there on to X
pub record Joint {A B : Type 0} (d : Deed A) (e : Deed B) (K : Shape) (x : A) (E M X : ℕ → List Record) : Type 0 where
  pub grows : (n : ℕ) → IsEnd (E n) (M n)
  pub onward : (n : ℕ) → IsEnd (M n) (X n)
  pub keeps : OfKept K E (λ mint submissions. StaysKept K E M mint (submissions ++ d.handed))
  pub stays : OfKept K M (λ mint submissions. StaysKept K M X mint (submissions ++ e.handed))
  pub did : d.did K E M x
  pub begun : d.begun K E M
  pub begins : e.begun K M X

-- one deed and another behind it are a third: what is next, begun, done and at fault in these is so in that
pub record Joins {A B C : Type 0} (d : Deed A) (e : Deed B) (c : Deed C) (x : A) (gives : B → C → Type 0) : Type 1 where
  pub handed : d.handed ++ e.handed ≡ c.handed
  pub next_still : (K : Shape) (E M X : ℕ → List Record) (lane : ℕ) (txs : List Compact) → Joint d e K x E M X → IsLaneOf K lane
      → HasPreparedPieces K lane [] M X
      → d.next K E M lane txs → c.next K E X lane txs
  pub next_then : (K : Shape) (E M X : ℕ → List Record) (lane : ℕ) (txs : List Compact) → Joint d e K x E M X → IsLaneOf K lane
      → e.next K M X lane txs → c.next K E X lane txs
  pub begun : (K : Shape) (E M X : ℕ → List Record) → Joint d e K x E M X → c.begun K E X
  pub did : (K : Shape) (E M X : ℕ → List Record) (y : B) (z : C) → Joint d e K x E M X → gives y z → e.did K M X y → c.did K E X z
  pub ends : (K : Shape) (E M X : ℕ → List Record) (failed : ℕ → Type 0) (may_hold : ℕ → ℕ → Type 0) (f : LaneFault) → Joint d e K x E M X
      → e.ends K M X failed may_hold f → c.ends K E X failed may_hold f

-- what was said of one deed is said of another, which may hand in more
pub record Widens {A C : Type 0} (d : Deed A) (c : Deed C) (gives : A → C → Type 0) : Type 1 where
  pub more : List FullTx
  pub handed : d.handed ++ more ≡ c.handed
  pub next : (K : Shape) (E X : ℕ → List Record) (lane : ℕ) (txs : List Compact) → IsLaneOf K lane → d.next K E X lane txs → c.next K E X lane txs
  pub begun : (K : Shape) (E X : ℕ → List Record) → d.begun K E X → c.begun K E X
  pub did : (K : Shape) (E X : ℕ → List Record) (y : A) (z : C) → gives y z → d.did K E X y → c.did K E X z
  pub ends : (K : Shape) (E X : ℕ → List Record) (failed : ℕ → Type 0) (may_hold : ℕ → ℕ → Type 0) (f : LaneFault) → d.begun K E X
      → d.ends K E X failed may_hold f → c.ends K E X failed may_hold f
