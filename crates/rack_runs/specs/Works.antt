-- What a command does over a ledger whose open batches are at their end, and what that leaves of the ledger that a rack showed.
use Rattle.std.specs.Prelude.{◌≡◌, ◌⊎◌, ℕ, ◌+◌, ◌*◌, ◌<◌, ◌≤◌, List, length, ◌++◌, Option, Result, All, IfOk, IfErr, OnOk}
use Rattle.outside.specs.declared.disk.Disk.{Ghosts}
use Rattle.cbdc_types.specs.Limits.{IsWithinLimits}
use Rattle.cbdc_types.specs.declared.answer.Answer.{Answer}
use Rattle.cbdc_model.specs.Records.{Shape, Header, Compact, Record}
use Rattle.cbdc_model.specs.Grammar.{HasSize, IsCompact}
use Rattle.cbdc_model.specs.Coins.{Output, FullTx}
use Rattle.cbdc_model.specs.Clean.{Clean}
use Rattle.cbdc_model.specs.Lanes.{IsEnd}
use Rattle.cbdc_model.specs.World.{AreIdle}
use Rattle.cbdc_model.specs.Headline.{Headline}
use Rattle.cbdc_model.specs.Waves.{IsResumed}
use Rattle.node_journal.specs.Nodes.{NodeOf}
use Rattle.lane_driver.specs.declared.fault.LaneFault.{LaneFault}
use Rattle.lane_driver.specs.declared.fault.LaneFaultKind.TheVariants.{Memory as NoMemory}
use Rattle.recovery.specs.declared.resumed.ResumedBatch.{ResumedBatch}
use Rattle.ledger_runs.specs.Turning.{IsLaneOf, OfKept, StaysKept}
use Rattle.ledger_runs.specs.Flying.{Launches}
use Rattle.ledger_runs.specs.Telling.{SamePrepared, TellResumed}
use Rattle.ledger_runs.specs.Least.{IsLeastOpen}
use Rattle.ledger_runs.specs.Faults.{IsRunCause, HaveFailed, MayHoldBytes, LanesRest}
use Rattle.file_runs.specs.Ledgers.{LedgerOf, ledger_journals, ledger_flights, ledger_faults, ledger_opened, ledger_capacity, IsChecked}
use Rattle.file_runs.specs.Ledgers.{IsLedgerQuiet, KeepsLedgerOf}
use Rattle.file_runs.specs.Runs.{joined, FliesWith}
use Rattle.rack_ledgers.specs.Racked.{Disks}
use Rattle.rack_ledgers.specs.Ledgers.{ByPlace, AreOpened}
use Rattle.rack_ledgers.specs.Opened.{MayClose}
use Rattle.rack_ledgers.specs.Caused.{listed_journals as told_journals, AreCaused}
use Rattle.rack_laws.specs.Shown.{OfShown, HoldsEach, NodeHasRoom, NodeFits}
use Rattle.rack_ledgers.specs.RefusalLaws.{AllHaveRoom}
use Rattle.cbdc_model.specs.Ranges.{node_count}
use Rattle.printed_lines.specs.Unspent.{IsUnspentCount}
use Rattle.rack_runs.specs.Kinds.{FliesBroken}
use Rattle.rack_runs.specs.Endings.{IsInOrder}
use Rattle.rack_runs.specs.Resting.{AllRestBehind}
use Rattle.rack_runs.specs.Runs.{IsGrown, TookLedger, AddsOpen, Turns}
use Rattle.rack_runs.specs.Stops.{WhyNoTurns}
use Rattle.rack_runs.specs.declared.told.Told.{Told}

-- what a command does, as relations between journals. `handed`: the transactions that it hands in, group by group. `next`: those that may be next for
-- a lane, from journals at entry to later ones. `ends`: whose fault ends it, from the journals that it was given. `begun`: what has been begun,
-- whatever the result, from those at entry. `did`: what was done where it came through, from those that it was given
pub record Deed (Done : Type 0) : Type 1 where
  pub handed : List (List FullTx)
  pub next : Shape → (ℕ → List Record) → (ℕ → List Record) → ℕ → List Compact → Type 0
  pub ends : Shape → (ℕ → List Record) → (ℕ → List Record) → (ℕ → Type 0) → (ℕ → ℕ → Type 0) → LaneFault → Type 0
  pub begun : Shape → (ℕ → List Record) → (ℕ → List Record) → Type 0
  pub did : Shape → (ℕ → List Record) → (ℕ → List Record) → Done → Type 0

-- as many transactions as a batch may have, each within the limits
abbrev pub FitsBatch : Shape → List Compact → Type 0
FitsBatch K txs = HasSize K txs × All IsCompact txs

-- whatever may be next for a lane fits a batch
abbrev pub AllNextFit : {Done : Type 0} → Deed Done → Type 0
AllNextFit d = (K : Shape) (E X : ℕ → List Record) (lane : ℕ) (txs : List Compact) → d.next K E X lane txs → FitsBatch K txs

-- ---- the resuming, and the work behind it

-- from journals E at entry to M the open batches were brought to their end, and nothing was prepared newly
pub record IsBehind (K : Shape) (E M : ℕ → List Record) : Type 0 where
  pub grows : (n : ℕ) → IsEnd (E n) (M n)
  pub unprepared : SamePrepared K E M
  pub idle : AreIdle K M
  pub keeps : OfKept K E (StaysKept K E M)
  pub resumed : OfKept K E (λ _ _. IsResumed K E M)

-- what a work leaves, whatever the result, from journals M that it was given to X. They have grown at their ends, and where they were kept they are,
-- with what was handed in besides. What is in flight may come next at its node, as before, and a Prepare was so before or is next for its lane. Each
-- lane is between batches, or its batch lacks a Lock, or the disk of a node that it asks has failed. What may be next and what has been begun is so
-- from all journals, too, from which a resuming led to M
pub record LeavesWork {Done : Type 0} (d : Deed Done) (K : Shape) (M X : ℕ → List Record) (before after : ℕ → Option Record) (failed : ℕ → Type 0) :
    Type 0 where
  pub grows : (n : ℕ) → IsEnd (M n) (X n)
  pub keeps : OfKept K M (λ mint submissions. StaysKept K M X mint (submissions ++ joined d.handed))
  pub flies : OfKept K M (FliesWith K (joined d.handed) M X before after)
  pub launches : Launches K (d.next K M X) M X before after
  pub rests : LanesRest K X failed
  pub since : (E : ℕ → List Record) → IsBehind K E M → (lane : ℕ) (txs : List Compact) → IsLaneOf K lane → d.next K M X lane txs
      → d.next K E X lane txs
  pub begun : IsWithinLimits K → (E : ℕ → List Record) → IsBehind K E M → d.begun K E X

-- the work came through
pub record WorkEndsWell {Done : Type 0} (d : Deed Done) (K : Shape) (M X : ℕ → List Record) (done : Done) : Type 0 where
  pub idle : AreIdle K X
  pub did : d.did K M X done

-- a lane's fault ended the work, and has its cause
pub record EndsBadly {Done : Type 0} (d : Deed Done) (K : Shape) (M X : ℕ → List Record) (failed : ℕ → Type 0) (may_hold : ℕ → ℕ → Type 0)
    (e : LaneFault) : Type 0 where
  pub cause : IsRunCause K (d.next K M X) M X failed may_hold e
  pub ends : d.ends K M X failed may_hold e

-- A work was done over the nodes of a ledger with no open batch: what the ledger is behind it, and the result.
pub record HasWorked {D Done : Type 0} (device : Ghosts D) (d : Deed Done)
    (before now : LedgerOf D) (came : Result Done LaneFault) : Type 0 where
  pub keeps_ledger : KeepsLedgerOf device before now
  pub checked : IsChecked now
  pub quiet : OnOk came (IsLedgerQuiet before → IsLedgerQuiet now)
  pub leaves : LeavesWork d before.header.shape (ledger_journals before) (ledger_journals now) (ledger_flights before) (ledger_flights now)
      (HaveFailed (ledger_opened now) (ledger_faults now))
  pub well : IfOk came (WorkEndsWell d before.header.shape (ledger_journals before) (ledger_journals now))
  pub badly : IfErr came (EndsBadly d before.header.shape (ledger_journals before) (ledger_journals now)
      (HaveFailed (ledger_opened now) (ledger_faults now)) (MayHoldBytes (ledger_capacity now)))

-- ---- the resuming and the work, from journals E at entry to X

-- nothing was prepared newly in a ledger within the limits, and where its journals are kept all new records are of batches that were open
pub record IsOpenOnly (K : Shape) (E X : ℕ → List Record) : Type 0 where
  pub limits : IsWithinLimits K
  pub unprepared : SamePrepared K E X
  pub adds : OfKept K E (λ _ _. AddsOpen K E X)

-- open batches alone were taken up, or the work was begun; open batches in the order of their lanes
abbrev pub BeginsWork : {Done : Type 0} → Deed Done → Shape → (ℕ → List Record) → (ℕ → List Record) → Type 0
BeginsWork d K E X = (IsOpenOnly K E X ⊎ d.begun K E X) × IsInOrder K E X

-- the fault ended the work, by counts of faults and by capacities that tell no more than what is known of the disks
pub record WorkEndsBy {Done : Type 0} (d : Deed Done) (K : Shape) (M X : ℕ → List Record) (failed : ℕ → Type 0) (may_hold : ℕ → ℕ → Type 0)
    (e : LaneFault) : Type 0 where
  pub opened_at : ℕ → ℕ
  pub faults_at : ℕ → ℕ
  pub capacity_at : ℕ → ℕ
  pub fails : (n : ℕ) → n < node_count K → HaveFailed opened_at faults_at n → failed n
  pub holds : (n c : ℕ) → n < node_count K → MayHoldBytes capacity_at n c → may_hold n c
  pub ends : d.ends K M X (HaveFailed opened_at faults_at) (MayHoldBytes capacity_at) e

-- the fault came as open batches were brought to their end, nothing was prepared newly, and it is that of the least lane that met one; or these are
-- at their end, nothing was prepared newly meanwhile, and the fault ended the work behind that
abbrev pub EndsWork : {Done : Type 0} → Deed Done → Shape → (ℕ → List Record) → (ℕ → List Record) → (ℕ → Type 0) → (ℕ → ℕ → Type 0) → LaneFault
    → Type 0
EndsWork d K E X failed may_hold e =
    (SamePrepared K E X × IsLeastOpen K E X failed may_hold e)
    ⊎ ((middle : ℕ → List Record) × ((n : ℕ) → IsEnd (E n) (middle n)) × SamePrepared K E middle × AreIdle K middle
    × WorkEndsBy d K middle X failed may_hold e)

-- whatever the result: as `LeavesWork`, from the journals at entry
pub record LeavesAll {Done : Type 0} (d : Deed Done) (K : Shape) (E X : ℕ → List Record) (before after : ℕ → Option Record) (failed : ℕ → Type 0) :
    Type 0 where
  pub grows : (n : ℕ) → IsEnd (E n) (X n)
  pub keeps : OfKept K E (λ mint submissions. StaysKept K E X mint (submissions ++ joined d.handed))
  pub flies : OfKept K E (FliesWith K (joined d.handed) E X before after)
  pub launches : Launches K (d.next K E X) E X before after
  pub begun : IsWithinLimits K → BeginsWork d K E X

-- all came through: the batches that were open, and what was done behind them
pub record AllWell {Done : Type 0} (d : Deed Done) (K : Shape) (E X : ℕ → List Record) (resumed : List ResumedBatch) (done : Done) : Type 0 where
  pub middle : ℕ → List Record
  pub behind : IsBehind K E middle
  pub batches : OfKept K E (λ _ _. TellResumed K E middle (K.coordinators * K.lanes) resumed)
  pub well : WorkEndsWell d K middle X done

-- all came through, whatever it told
pub record CameThrough {Done : Type 0} (d : Deed Done) (K : Shape) (E X : ℕ → List Record) : Type 0 where
  pub resumed : List ResumedBatch
  pub done : Done
  pub well : AllWell d K E X resumed done

-- the turns that a work takes, the resuming before it being part of them
abbrev pub work_turns : {Done : Type 0} → Deed Done → Turns
work_turns d = record { handed = d.handed; next = d.next; ends = EndsWork d; begun = BeginsWork d; through = CameThrough d }

-- a lane's fault ended the resuming or the work
pub record AllBadly {Done : Type 0} (d : Deed Done) (K : Shape) (E X : ℕ → List Record) (failed : ℕ → Type 0) (may_hold : ℕ → ℕ → Type 0)
    (e : LaneFault) : Type 0 where
  pub cause : IsRunCause K (d.next K E X) E X failed may_hold e
  pub ends : EndsWork d K E X failed may_hold e
  pub rests : AllRestBehind K E X failed (e.fault ≡ NoMemory)

-- The open batches of a ledger were brought to their end, and a work was done: what the ledger is behind it, and the result.
pub record HasRunWork {D Done : Type 0} (device : Ghosts D) (d : Deed Done)
    (before now : LedgerOf D) (resumed : List ResumedBatch) (came : Result Done LaneFault) : Type 0 where
  pub keeps_ledger : KeepsLedgerOf device before now
  pub checked : IsChecked now
  pub quiet : OnOk came (IsLedgerQuiet before → IsLedgerQuiet now)
  pub leaves : LeavesAll d before.header.shape (ledger_journals before) (ledger_journals now) (ledger_flights before) (ledger_flights now)
      (HaveFailed (ledger_opened now) (ledger_faults now))
  pub well : IfOk came (AllWell d before.header.shape (ledger_journals before) (ledger_journals now) resumed)
  pub badly : IfErr came (AllBadly d before.header.shape (ledger_journals before) (ledger_journals now)
      (HaveFailed (ledger_opened now) (ledger_faults now)) (MayHoldBytes (ledger_capacity now)))

-- what a node says of itself: its count of faults and its capacity are its disk's, which has room for its journal, for what is kept for its open
-- batches and for what is in flight; and a record is in flight only where the disk failed
pub record IsSeen {D : Type 0} (device : Ghosts D) (n : NodeOf D) : Type 0 where
  pub faults : n.faults ≡ device.count n.disk
  pub capacity : n.capacity ≡ device.limit n.disk
  pub room : NodeHasRoom n
  pub fits : NodeFits n
  pub flown : FliesBroken n

-- so do all nodes of a ledger
pub record AreSeen {D : Type 0} (device : Ghosts D) (logs shards : List (NodeOf D)) : Type 0 where
  pub logs_are : All (IsSeen device) logs
  pub shards_are : All (IsSeen device) shards

-- ---- on a rack

-- the disks of a rack at entry, and the nodes as they were opened
pub record AtEntry (D : Type 0) : Type 0 where
  pub disks : Disks D
  pub header : Header
  pub logs : List (NodeOf D)
  pub shards : List (NodeOf D)

-- the ledger as it was opened
abbrev pub entry_ledger : {D : Type 0} → AtEntry D → LedgerOf D
entry_ledger e = record { header = e.header; logs = e.logs; shards = e.shards }

-- all nodes of the ledger that the rack told were opened, each record of it is caused, and their disks may be put back
pub record IsLedgerOpened {D : Type 0} (device : Ghosts D) (e : AtEntry D) (held : ℕ → Option D)
    (can_put : ℕ → ℕ → Type 0) (can_take : ℕ → Type 0) : Type 0 where
  pub nodes : AreOpened device e.disks.held e.header e.logs e.shards
  pub caused : AreCaused e.header.shape (told_journals e.logs e.shards)
  pub logs_since : ByPlace (λ n x. e.disks.faults n ≤ device.count x.disk) e.logs
  pub shards_since : ByPlace (λ s x. e.disks.faults (e.header.shape.coordinators + s) ≤ device.count x.disk) e.shards
  pub others : (n : ℕ) → length e.logs + length e.shards ≤ n → held n ≡ e.disks.held n
  pub may_close : MayClose device can_put can_take e.logs e.shards

-- they were opened, their open batches were brought to their end, and a work was done
pub record HasOpenedAndRun {D Done : Type 0} (device : Ghosts D) (d : Deed Done) (e : AtEntry D) (held : ℕ → Option D)
    (can_put : ℕ → ℕ → Type 0) (can_take : ℕ → Type 0) (ledger : LedgerOf D) (resumed : List ResumedBatch) (came : Result Done LaneFault) : Type 0
  where
    pub begun : IsLedgerOpened device e held can_put can_take
    pub ran : HasRunWork device d (entry_ledger e) ledger resumed came

-- where the ledger that the disks told was kept: it came through, each disk holds its journal and no record more and has room for it and for what is
-- kept, open batches were taken up in the order of their lanes, so many hashes are unspent now, and the sentence holds of the journals
pub record HasEndedWork {D Done : Type 0} (device : Ghosts D) (held : ℕ → Option D) (d : Deed Done) (told : Told Done)
    (K : Shape) (mint : List Output) (submissions : List FullTx) (E : ℕ → List Record) : Type 0 where
  pub exit : ℕ → List Record
  pub well : AllWell d K E exit told.resumed.items told.done
  pub grown : IsGrown K mint (submissions ++ joined d.handed) E exit
  pub disks : HoldsEach device held K exit
  pub rooms : AllHaveRoom device held K exit
  pub in_order : IsInOrder K E exit
  pub unspent : IsUnspentCount K exit told.unspent
  pub headline : Clean mint (submissions ++ joined d.handed) → Headline K mint (submissions ++ joined d.handed) exit

-- A work was done over the ledger on a rack: the result, and what that leaves of the disks.
pub record HasDoneWork {D Done : Type 0} (device : Ghosts D) (before after : Disks D) (d : Deed Done) (came : Result (Told Done) Answer) : Type 0
  where
    pub caused : OnOk came (TookLedger device before.held after.held)
    pub ended : IfOk came (λ told. OfShown device before.held (HasEndedWork device after.held d told))
    pub stopped : IfErr came (WhyNoTurns device before after (work_turns d))
