-- What a recovery did, by what the disks told before and tell behind it.
use Rattle.std.specs.Prelude.{ℕ, List, Option}
use Rattle.outside.specs.declared.disk.Disk.{Ghosts}
use Rattle.line_text.specs.Lines.{Text}
use Rattle.cbdc_model.specs.Records.{Shape, Record}
use Rattle.cbdc_model.specs.Coins.{Output, FullTx}
use Rattle.printed_lines.specs.Recoveries.{IsRecoverText}
use Rattle.rack_ledgers.specs.Racked.{Disks}
use Rattle.rack_laws.specs.Shown.{OfShown}
use Rattle.rack_runs.specs.Runs.{IsRecovery, TookLedger}

-- a recovery of a kept ledger, which was printed: the lines are those of this recovery, from the journals at entry to those at its exit, which the
-- disks hold now
pub record IsPrintedRecovery {D : Type 0} (device : Ghosts D) (now : ℕ → Option D) (printed : Text → Type 0)
    (K : Shape) (mint : List Output) (submissions : List FullTx) (E : ℕ → List Record) : Type 0 where
  pub recovered : IsRecovery device now K mint submissions E
  pub text : Text
  pub lines : IsRecoverText K E recovered.exit text
  pub prints : printed text

-- where the ledger that the disks told was kept, this was a printed recovery of it
abbrev pub PrintsRecovery : {D : Type 0} → Ghosts D → (ℕ → Option D) → (ℕ → Option D) → (Text → Type 0) → Type 0
PrintsRecovery device before now printed = OfShown device before (IsPrintedRecovery device now printed)

-- the disks, as far as they told, held a ledger in which each record was caused (`TookLedger` says what that leaves of it); and where it was kept its
-- open batches were brought to their end, and this was printed
abbrev pub DidRecover : {D : Type 0} → Ghosts D → Disks D → Disks D → (Text → Type 0) → Type 0
DidRecover device before after printed =
    TookLedger device before.held after.held × PrintsRecovery device before.held after.held printed
