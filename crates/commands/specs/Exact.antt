-- Where what was asked for was done, no refusal to open the ledger has its cause in the disks.
use Rattle.outside.specs.declared.disk.Disk.{Ghosts}
use Rattle.cbdc_types.specs.declared.answer.Answer.{Answer}
use Rattle.requests.specs.declared.Request.{Request}
pub use Rattle.command_answers.specs.Exact.{IsOfDisks, HasNoCause}
pub use Rattle.audit_command.specs.Promises.{IsUnopenedOf}
use Rattle.command_answers.specs.Scene.{Scene}
use Rattle.commands.specs.Promises.{promise_of}

-- no refusal of what is asked has its cause in the disks: of the ledger that `run` and `recover` resume, that `status` opens, and that `audit` opens
-- by its mint; of other requests nothing is said
abbrev pub IsExact : {D : Type 0} → Ghosts D → Scene D → Request → Type 0
IsExact device before r = (promise_of device r).exact before

-- what was asked ended behind the opening of the ledger: a lane met a fault (`IsLaneFault`), or an audit found something wrong (`IsUnsoundBy`)
abbrev pub IsEndedLater : {D : Type 0} → Ghosts D → Scene D → Scene D → Request → Answer → Type 0
IsEndedLater device before after r answer = (promise_of device r).ended before after answer
