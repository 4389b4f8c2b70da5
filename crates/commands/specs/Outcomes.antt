-- What was done when all went well, by what stood outside before and what stands there behind it; and why not.
use Rattle.std.specs.Prelude.{List}
use Rattle.outside.specs.declared.disk.Disk.{Ghosts}
use Rattle.line_text.specs.Lines.{Text}
use Rattle.cbdc_types.specs.declared.answer.Answer.{Answer}
use Rattle.command_line.specs.Asked.{WordsAskFor}
use Rattle.requests.specs.declared.Request.{Request}
use Rattle.command_answers.specs.Scene.{Scene}
use Rattle.command_answers.specs.Texts.{IsPrinted}
use Rattle.commands.specs.Promises.{promise_of}

-- the output took this text between the two moments, all of it at Ok, and at WriteFault a front
abbrev pub OutputTook : {D : Type 0} → Scene D → Scene D → Answer → Text → Type 0
OutputTook before after answer = IsPrinted before.printed after.printed answer

-- what was asked for was done, and its lines were printed (`OutputTook`). It is one of these: a ledger was made (`DidInit`), files were run over one
-- (`DidRun`), its open batches were brought to their end (`DidRecover`), hashes were looked up (`DidStatus`), its journals were audited and are sound
-- (`DidAudit`), a workload was run in memory, and the disks are as before (`PrintsWorkload`), or a text was shown
abbrev pub Did : {D : Type 0} → Ghosts D → Scene D → Scene D → Request → Answer → Type 0
Did device before after r answer = (promise_of device r).did before.file before.disks after.disks (OutputTook before after answer)

-- why what was asked for was not done: of `init`, `run`, `recover`, `status` and `audit` a file that is the first not read, what the disks told of
-- the ledger, a lane's fault, or what an audit found; of a workload that hashes of it clash; a text that is shown has no other cause
abbrev pub Why : {D : Type 0} → Ghosts D → Scene D → Scene D → Request → Answer → Type 0
Why device before after r answer = (promise_of device r).why before after answer

-- what the words ask for was done
abbrev pub AskedDid : {D : Type 0} → Ghosts D → Scene D → Scene D → List Text → Answer → Type 0
AskedDid device before after words answer = (r : Request) × WordsAskFor words r × Did device before after r answer

-- why what the words ask for was not done
abbrev pub AskedWhy : {D : Type 0} → Ghosts D → Scene D → Scene D → List Text → Answer → Type 0
AskedWhy device before after words answer = (r : Request) × WordsAskFor words r × Why device before after r answer
