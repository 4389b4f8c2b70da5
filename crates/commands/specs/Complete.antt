-- When nothing hinders what is asked: it is done then, unless memory runs out.
use Rattle.std.specs.Prelude.{List, Bool}
use Rattle.outside.specs.declared.disk.Disk.{Ghosts}
use Rattle.cbdc_model.specs.Coins.{FullTx}
use Rattle.requests.specs.declared.Request.{Request}
pub use Rattle.command_answers.specs.Promises.{none_sound}
use Rattle.command_answers.specs.Scene.{Scene}
pub use Rattle.init_command.specs.Promises.{CanInit}
pub use Rattle.run_command.specs.Promises.{CanRun}
pub use Rattle.audit_command.specs.Promises.{CanAudit}
use Rattle.rack_laws.specs.Ready.{IsRackReady}
use Rattle.commands.specs.Promises.{promise_of}

-- the disks are ready for a run of files, of which these submissions are sound (`IsRackReady`): they show a kept ledger, and no count of faults of
-- its nodes rises. It has room for every record that is still to be written of its open batches and of the sound transactions, each record at its
-- largest, and stamps for them all up to 2^62 (`Ample`)
abbrev pub AreReadyFor : {D : Type 0} → Ghosts D → Scene D → Scene D → (FullTx → Bool) → List (List FullTx) → Type 0
AreReadyFor device before after sound files = IsRackReady device before.disks after.disks sound files

-- nothing hinders what is asked: of `init` `CanInit`; of `run` `CanRun`; of `recover` `AreReadyFor` of no files; of `status` the same, and each hash
-- has its 32 bytes; of `audit` `CanAudit`; of `gen` that no hashes of its workload clash; of a text that is shown nothing more. So of `run`,
-- `recover` and `status` the disks are `Ample`
abbrev pub IsUnhindered : {D : Type 0} → Ghosts D → Scene D → Scene D → Request → Type 0
IsUnhindered device before after r = (promise_of device r).unhindered before after
