-- The result of resuming a ledger's lanes.
use Rattle.std.specs.Prelude.{◌⊎◌, ℕ, ◌*◌, Result, IfOk, IfErr, OnOk}
use Rattle.std.specs.Global.{Vec}
use Rattle.outside.specs.declared.disk.Disk.{Ghosts}
use Rattle.cbdc_model.specs.Lanes.{IsEnd}
use Rattle.cbdc_model.specs.World.{AreIdle}
use Rattle.cbdc_model.specs.Waves.{IsResumed}
use Rattle.lane_driver.specs.declared.fault.LaneFault.{LaneFault}
use Rattle.recovery.specs.declared.resumed.ResumedBatch.{ResumedBatch}
use Rattle.ledger_runs.specs.Turning.{OfKept, StaysKept}
use Rattle.ledger_runs.specs.Flying.{FliesOn, Launches}
use Rattle.ledger_runs.specs.Least.{IsUnbegunForMemory, IsLeastOpen}
use Rattle.ledger_runs.specs.Telling.{TellResumed, SamePrepared}
use Rattle.ledger_runs.specs.Faults.{TakesInOrder, IsRunCause, AllRestOrWait, HaveFailed, MayHoldBytes, Nothing}
use Rattle.file_runs.specs.Ledgers.{LedgerOf, ledger_journals, ledger_flights, ledger_faults, ledger_opened, ledger_capacity, IsChecked}
use Rattle.file_runs.specs.Ledgers.{IsLedgerQuiet, KeepsLedgerOf}

-- The open batches of a ledger were brought to their end, or a lane met a fault: what the ledger is behind that, and the result.
pub record HasResumed {D : Type 0} (device : Ghosts D) (before now : LedgerOf D)
    (came : Result (Vec ResumedBatch) LaneFault) : Type 0 where
  pub keeps_ledger : KeepsLedgerOf device before now
  pub idle : OnOk came (AreIdle before.header.shape (ledger_journals now))
  pub keeps : OfKept before.header.shape (ledger_journals before) (StaysKept before.header.shape (ledger_journals before) (ledger_journals now))
  pub resumed : OnOk came (OfKept before.header.shape (ledger_journals before)
      (λ _ _. IsResumed before.header.shape (ledger_journals before) (ledger_journals now)))
  -- the batches that were open, in order, each with the phase in which it stood and what is decided of it; and none was prepared
  pub told : IfOk came (λ rs. OfKept before.header.shape (ledger_journals before)
      (λ _ _. TellResumed before.header.shape (ledger_journals before) (ledger_journals now)
      (before.header.shape.coordinators * before.header.shape.lanes) rs.items))
  pub prepares : SamePrepared before.header.shape (ledger_journals before) (ledger_journals now)
  pub quiet : OnOk came (IsLedgerQuiet before → IsLedgerQuiet now)
  pub flies : OfKept before.header.shape (ledger_journals before)
      (FliesOn before.header.shape (ledger_journals before) (ledger_journals now) (ledger_flights before) (ledger_flights now))
  pub launches : Launches before.header.shape (λ _. Nothing) (ledger_journals before) (ledger_journals now) (ledger_flights before)
      (ledger_flights now)
  pub checked : IsChecked now
  pub grows : (n : ℕ) → IsEnd (ledger_journals before n) (ledger_journals now n)
  -- with a fault or without, lane by lane in rising order
  pub order : TakesInOrder before.header.shape (ledger_journals before) (ledger_journals now)
  -- its fault has its cause
  pub fault : IfErr came (IsRunCause before.header.shape (λ _. Nothing) (ledger_journals before) (ledger_journals now)
      (HaveFailed (ledger_opened now) (ledger_faults now)) (MayHoldBytes (ledger_capacity now)))
  -- it is that of the least lane that met one: all lesser lanes are idle; only where memory ran out before the first was taken up is nothing done
  pub least : IfErr came (IsLeastOpen before.header.shape (ledger_journals before) (ledger_journals now)
      (HaveFailed (ledger_opened now) (ledger_faults now)) (MayHoldBytes (ledger_capacity now)))
  -- behind the fault of a lane each lane was taken up: it is between batches, or its batch lacks a Lock, or the disk of a node that it asks has
  -- failed; or memory ran out before its Locks, and it is prepared still
  pub rests : IfErr came (λ e. IsUnbegunForMemory (ledger_journals before) (ledger_journals now) e
      ⊎ AllRestOrWait before.header.shape (ledger_journals before) (ledger_journals now) (HaveFailed (ledger_opened now) (ledger_faults now))
      (λ _. Unit {0}))
