-- What `run` and `recover` promise.
use Rattle.std.specs.Prelude.{◌≡◌, ◌⊎◌, List, []}
use Rattle.outside.specs.declared.disk.Disk.{Ghosts}
use Rattle.line_text.specs.Lines.{Text}
use Rattle.cbdc_model.specs.Coins.{FullTx}
use Rattle.requests.specs.declared.FileWord.{FileWord}
use Rattle.command_line.specs.Single.{names_of}
use Rattle.input_files.specs.Contents.{AreRead}
use Rattle.file_runs.specs.Runs.{joined}
use Rattle.sentinel.specs.Files.{file_verdict}
use Rattle.sentinel.specs.declared.file.VerdictFile.{VerdictFile}
use Rattle.submissions.specs.SoundTest.{sound_by}
use Rattle.command_answers.specs.Causes.{OneNamed}
use Rattle.command_answers.specs.Exact.{HasNoCause}
use Rattle.command_answers.specs.Promises.{Needs, Promise, none_sound}
use Rattle.command_answers.specs.Scene.{Scene}
use Rattle.rack_ledgers.specs.Caused.{IsUnresumed}
use Rattle.rack_laws.specs.Files.{HoldsVerdicts, HoldClients}
use Rattle.rack_laws.specs.Ready.{IsRackReady}
use Rattle.rack_runs.specs.Runs.{IsLaneFault, file_turns, open_turns}
use Rattle.rack_runs.specs.Stops.{WhyNoTurns, TurnsLeave}
use Rattle.run_command.specs.Outcomes.{DidRun, WhyNoRun, RunLeaves, RunPlace, RunRose}
use Rattle.run_command.specs.RecoverOutcomes.{DidRecover}

-- the files hold verdicts and transactions, and the disks show a kept ledger, with room and stamps for all that is to come of them
pub record CanRun {D : Type 0} (device : Ghosts D) (before after : Scene D) (verdicts : Text) (clients : List Text) : Type 0 where
  pub known : VerdictFile
  pub handed : List (List FullTx)
  pub knows : HoldsVerdicts before.file before.file_faults after.file_faults verdicts known
  pub holds : HoldClients before.file before.file_faults after.file_faults 0 clients handed
  pub ready : IsRackReady device before.disks after.disks (sound_by (file_verdict known)) handed

-- `run` of these client files, with these verdicts
abbrev pub run_promise : {D : Type 0} → Ghosts D → FileWord → List FileWord → Promise D
run_promise device verdicts clients = record {
  did = λ files before after printed. DidRun device files before after printed verdicts clients;
  why = λ before after answer. WhyNoRun device before after verdicts clients answer;
  leaves = λ before after answer. RunLeaves device before after verdicts clients answer;
  ended = λ before after answer. (handed : List (List FullTx)) × (known : VerdictFile)
      × IsLaneFault device before.disks after.disks (file_turns (file_verdict known) handed) answer;
  exact = λ before. HasNoCause device before.disks.held (IsUnresumed device before.disks.held);
  unhindered = λ before after. CanRun device before after verdicts.name.now (names_of clients);
}

-- what it needs
abbrev pub run_needs : FileWord → List FileWord → Needs
run_needs verdicts clients = record {
  place = λ place. RunPlace verdicts clients place;
  names = λ place name. OneNamed clients place name ⊎ ((place ≡ verdicts.place) × (name ≡ verdicts.name.now));
  rose = λ before now place. RunRose before now verdicts clients place;
  hands_in = λ files txs. (handed : List (List FullTx)) × AreRead files 0 clients handed × (txs ≡ joined handed);
  of_no_rack = ⊥;
  of_no_file = ⊥;
  sized = Unit {0};
}

-- `recover`
abbrev pub recover_promise : {D : Type 0} → Ghosts D → Promise D
recover_promise device = record {
  did = λ files before after printed. DidRecover device before after printed;
  why = λ before after answer. WhyNoTurns device before.disks after.disks open_turns answer;
  leaves = λ before after answer. TurnsLeave device before.disks after.disks open_turns answer;
  ended = λ before after answer. IsLaneFault device before.disks after.disks open_turns answer;
  exact = λ before. HasNoCause device before.disks.held (IsUnresumed device before.disks.held);
  unhindered = λ before after. IsRackReady device before.disks after.disks none_sound [];
}

-- what it needs
abbrev pub recover_needs : Needs
recover_needs = record {
  place = λ place. ⊥;
  names = λ place name. ⊥;
  rose = λ before now place. ⊥;
  hands_in = λ files txs. ⊥;
  of_no_rack = ⊥;
  of_no_file = Unit {0};
  sized = Unit {0};
}
