-- What is left of the disks where what was asked for was not done.
use Rattle.std.specs.Prelude.{List}
use Rattle.outside.specs.declared.disk.Disk.{Ghosts}
use Rattle.line_text.specs.Lines.{Text}
use Rattle.cbdc_types.specs.declared.answer.Answer.{Answer}
use Rattle.command_line.specs.Asked.{WordsAskFor}
use Rattle.requests.specs.declared.Request.{Request}
use Rattle.command_answers.specs.Scene.{Scene}
use Rattle.commands.specs.Promises.{promise_of, needs_of}

-- what is left by what was asked for and was not done. By `init` of a mint that its file holds: all disks as they were read, or first records at the
-- nodes above the one at which their writing stopped. By `run` of transactions that its files hold, and by `recover`: all disks as they were read, or
-- as a lane's fault leaves them. By `status` and `audit`: all disks as they were read. Of a workload and of a text that is shown nothing is said here
abbrev pub RequestLeaves : {D : Type 0} → Ghosts D → Scene D → Scene D → Request → Answer → Type 0
RequestLeaves device before after r answer = (promise_of device r).leaves before after answer

-- what is left by what the words ask for
abbrev pub AskedLeaves : {D : Type 0} → Ghosts D → Scene D → Scene D → List Text → Answer → Type 0
AskedLeaves device before after words answer = (r : Request) × WordsAskFor words r × RequestLeaves device before after r answer

-- what is asked is about no rack: a workload in memory, or a text that is shown
abbrev pub IsOfNoRack : Request → Type 0
IsOfNoRack r = (needs_of r).of_no_rack

-- what is asked needs no file
abbrev pub IsOfNoFile : Request → Type 0
IsOfNoFile r = (needs_of r).of_no_file
