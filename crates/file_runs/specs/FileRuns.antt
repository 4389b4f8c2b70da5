-- What running a client file came to.
use Rattle.std.specs.Prelude.{◌<◌, ◌++◌, ℕ, Bool, List, Result, IfOk, IfErr, OnOk}
use Rattle.outside.specs.declared.disk.Disk.{Ghosts}
use Rattle.cbdc_model.specs.Coins.{FullTx}
use Rattle.cbdc_model.specs.Lanes.{IsEnd}
use Rattle.cbdc_model.specs.World.{AreIdle}
use Rattle.cbdc_model.specs.Waves.{IsFileRun, sent_to}
use Rattle.lane_driver.specs.declared.fault.LaneFault.{LaneFault}
use Rattle.submissions.specs.Checks.{VerdictsOf, TellsSound, AreChecked}
use Rattle.ledger_runs.specs.Turning.{OfKept, StaysKept}
use Rattle.ledger_runs.specs.Flying.{Launches}
use Rattle.ledger_runs.specs.Faults.{IsRunCause, HaveFailed, MayHoldBytes, LanesRest}
use Rattle.file_runs.specs.declared.ledger.Ledger.{Ledger}
use Rattle.file_runs.specs.Ledgers.{ledger_journals, ledger_flights, ledger_faults, ledger_opened, ledger_capacity, IsChecked, IsLedgerQuiet}
use Rattle.file_runs.specs.Ledgers.{KeepsLedgerOf}
use Rattle.file_runs.specs.declared.waves.Wave.{Wave}
use Rattle.file_runs.specs.Runs.{HavePreparedFile, IsSentPiece, FliesWith, HaveBegunFile}
use Rattle.file_runs.specs.Endings.{EndsFile}
use Rattle.file_runs.specs.Telling.{TellsFile}

-- A file's submissions were run over the nodes of a ledger with no open batch: what the ledger is behind it, and the result.
pub record RanFile {D : Type 0} (device : Ghosts D) (verdicts : VerdictsOf) (txs : List FullTx) (before now : Ledger D)
    (came : Result Wave LaneFault) : Type 0 where
  pub keeps_ledger : KeepsLedgerOf device before now
  pub idle : OnOk came (AreIdle before.header.shape (ledger_journals now))
  -- kept journals have grown and are kept, with these submissions besides
  pub keeps : OfKept before.header.shape (ledger_journals before)
      (λ mint submissions. StaysKept before.header.shape (ledger_journals before) (ledger_journals now) mint (submissions ++ txs))
  -- without a fault each lane took what the sound submissions send it, in order, and nothing else was done
  pub runs : OnOk came (OfKept before.header.shape (ledger_journals before)
      (λ _ _. (sound : FullTx → Bool) → TellsSound verdicts sound
      → IsFileRun before.header.shape (sent_to before.header.shape sound txs) (ledger_journals before) (ledger_journals now)))
  pub quiet : OnOk came (IsLedgerQuiet before → IsLedgerQuiet now)
  pub checked : IfOk came (λ w. AreChecked before.header.shape verdicts txs w.checked.items)
  -- and what was decided of each that was sent to its lane
  pub told : IfOk came (λ w. OfKept before.header.shape (ledger_journals before)
      (λ _ _. TellsFile before.header.shape verdicts txs (ledger_journals before) (ledger_journals now) w))
  -- what is in flight may come next at its node, as before
  pub flies : OfKept before.header.shape (ledger_journals before)
      (FliesWith before.header.shape txs (ledger_journals before) (ledger_journals now) (ledger_flights before) (ledger_flights now))
  -- a Prepare that is in flight was so before, or is that of the next piece of what the file sends to its lane
  pub launches : Launches before.header.shape (IsSentPiece before.header.shape verdicts txs (ledger_journals before) (ledger_journals now))
      (ledger_journals before) (ledger_journals now) (ledger_flights before) (ledger_flights now)
  pub still : IsChecked now
  pub grows : (n : ℕ) → IsEnd (ledger_journals before n) (ledger_journals now n)
  pub prepared : OnOk came (HavePreparedFile before.header.shape verdicts txs (ledger_journals before) (ledger_journals now))
  -- with a fault or without, no lane has prepared anything but the first pieces of what the file sends it
  pub begun : 0 < before.header.shape.batch → HaveBegunFile before.header.shape verdicts txs (ledger_journals before) (ledger_journals now)
  -- a fault has its cause: what an idle lane wants is the Prepare of the next piece of what the file sends it
  pub fault : IfErr came (IsRunCause before.header.shape
      (IsSentPiece before.header.shape verdicts txs (ledger_journals before) (ledger_journals now)) (ledger_journals before) (ledger_journals now)
      (HaveFailed (ledger_opened now) (ledger_faults now)) (MayHoldBytes (ledger_capacity now)))
  -- whatever came, each lane is between batches, or its batch lacks a Lock, or the disk of a node that it asks has failed
  pub rests : LanesRest before.header.shape (ledger_journals now) (HaveFailed (ledger_opened now) (ledger_faults now))
  -- it is that of the least lane that met one: each lesser lane has run all that the file sends it, and each greater one has, too, or met a fault of
  -- its own
  pub least : IfErr came (EndsFile before.header.shape verdicts txs (ledger_journals before) (ledger_journals now)
      (HaveFailed (ledger_opened now) (ledger_faults now)) (MayHoldBytes (ledger_capacity now)))
