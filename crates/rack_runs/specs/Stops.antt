-- Why a run or a recovery over the ledger on a rack did not come through, and what that leaves of the disks.
use Rattle.std.specs.Prelude.{◌⊎◌}
use Rattle.outside.specs.declared.disk.Disk.{Ghosts}
use Rattle.cbdc_types.specs.declared.answer.Answer.{Answer}
use Rattle.rack_ledgers.specs.Racked.{AreDisksBack, Disks}
use Rattle.rack_ledgers.specs.Caused.{IsUnresumed}
use Rattle.rack_runs.specs.Runs.{Turns, IsLaneFault}

-- the ledger could not be opened, or a record of it was not caused, and the disks are back as they were read; or over a ledger whose records were
-- all caused a lane met a fault (`IsLaneFault`)
abbrev pub WhyNoTurns : {D : Type 0} → Ghosts D → Disks D → Disks D → Turns → Answer → Type 0
WhyNoTurns device before after turns answer =
    (IsUnresumed device before.held before.faults after.faults answer × AreDisksBack device before after)
    ⊎ IsLaneFault device before after turns answer

-- a run or a recovery that did not come through: all disks are as they were read, or as a lane's fault leaves them, as where memory ran out
abbrev pub TurnsLeave : {D : Type 0} → Ghosts D → Disks D → Disks D → Turns → Answer → Type 0
TurnsLeave device before after turns answer = AreDisksBack device before after ⊎ IsLaneFault device before after turns answer
