-- What a run of client files did, by what the files and the disks told before and tell behind it; why it did not come through, and what that leaves.
use Rattle.std.specs.Prelude.{◌≡◌, ◌≤◌, ℕ, List, Option, ◌⊎◌}
use Rattle.outside.specs.declared.disk.Disk.{Ghosts}
use Rattle.cbdc_model.specs.Records.{Shape, Record}
use Rattle.line_text.specs.Lines.{Text}
use Rattle.printed_lines.specs.Runs.{IsRunText}
use Rattle.cbdc_model.specs.Coins.{FullTx, Output}
use Rattle.requests.specs.declared.FileWord.{FileWord}
use Rattle.input_files.specs.Contents.{AreRead, AreVerdicts, all_txs, FirstNotRead, IsNoVerdicts}
use Rattle.sentinel.specs.Files.{file_verdict}
use Rattle.sentinel.specs.declared.file.VerdictFile.{VerdictFile}
use Rattle.command_answers.specs.Causes.{FileRose, OnePlace, OneRose}
use Rattle.command_answers.specs.Scene.{Scene}
use Rattle.rack_ledgers.specs.Racked.{Disks}
use Rattle.rack_laws.specs.Shown.{OfShown}
use Rattle.rack_runs.specs.Runs.{TookLedger, IsRun, file_turns}
use Rattle.rack_runs.specs.Telling.{IsRunTold}
use Rattle.file_runs.specs.declared.ran.Ran.{Ran}
use Rattle.cbdc_types.specs.declared.answer.Answer.{Answer}
use Rattle.submissions.specs.Checks.{VerdictsOf}
use Rattle.submissions.specs.SoundTest.{sound_by}
use Rattle.submission_laws.specs.Settled.{AreSettled}
use Rattle.submission_laws.specs.Free.{AreFreeConfirmed}
use Rattle.rack_runs.specs.Stops.{WhyNoTurns, TurnsLeave}

-- client files were run, as the run tells it
pub record WasRun {D : Type 0} (device : Ghosts D) (files : Text → Option (List ℕ)) (before after : Disks D)
    (verdicts : FileWord) (clients : List FileWord) (ran : Ran) : Type 0 where
  -- the files held these transactions, at most a million, and these verdicts
  pub handed : List (List FullTx)
  pub known : VerdictFile
  pub read : AreRead files 0 clients handed
  pub verdicts_read : AreVerdicts (files verdicts.name.now) known
  pub few : all_txs handed ≤ 1000000
  -- they were run over the ledger that the disks told, in which each record was caused
  pub caused : TookLedger device before.held after.held
  -- where it was kept the run tells what it did
  pub tells : OfShown device before.held (IsRunTold device after.held (file_verdict known) handed ran)

-- a run of these transactions over a kept ledger, which was printed
pub record IsPrintedRun {D : Type 0} (device : Ghosts D) (now : ℕ → Option D) (printed : Text → Type 0) (verdicts : VerdictsOf)
    (handed : List (List FullTx))
    (K : Shape) (mint : List Output) (submissions : List FullTx) (E : ℕ → List Record) : Type 0 where
  pub run : IsRun device now verdicts handed K mint submissions E
  -- the lines are those of this run, from the journals at entry to those at its exit, which the disks hold now
  pub text : Text
  pub lines : IsRunText K verdicts (sound_by verdicts) handed E run.exit text
  pub prints : printed text
  -- what they tell of each sound submission is what became of it: it has its one place in one new Prepare, and nothing else has one, and it is
  -- confirmed exactly where every shard held it
  pub settled : AreSettled K verdicts handed E run.exit
  -- it is confirmed where its inputs were unspent when its file's wave began, and no other sound submission of the file spends one
  pub free : AreFreeConfirmed K verdicts handed E run.exit

-- where the ledger that the disks told was kept, this was a printed run of it
abbrev pub PrintsRun : {D : Type 0} → Ghosts D → (ℕ → Option D) → (ℕ → Option D) → (Text → Type 0) → VerdictsOf → List (List FullTx) → Type 0
PrintsRun device before now printed verdicts handed = OfShown device before (IsPrintedRun device now printed verdicts handed)

-- client files were run
pub record DidRun {D : Type 0} (device : Ghosts D) (files : Text → Option (List ℕ)) (before after : Disks D) (printed : Text → Type 0)
    (verdicts : FileWord) (clients : List FileWord) : Type 0 where
  -- the files held these transactions and verdicts
  pub handed : List (List FullTx)
  pub known : VerdictFile
  pub read : AreRead files 0 clients handed
  pub verdicts_read : AreVerdicts (files verdicts.name.now) known
  -- the disks, as far as they told, held a ledger in which each record was caused; what that leaves of it
  pub caused : TookLedger device before.held after.held
  -- where it was kept the transactions were run over it, and this was printed
  pub ran : PrintsRun device before.held after.held printed (file_verdict known) handed

-- one of the files of a run has this place
abbrev pub RunPlace : FileWord → List FileWord → ℕ → Type 0
RunPlace verdicts clients place = OnePlace clients place ⊎ (place ≡ verdicts.place)

-- the count of faults of one of its files rose, and it has this place
abbrev pub RunRose : (Text → ℕ) → (Text → ℕ) → FileWord → List FileWord → ℕ → Type 0
RunRose before now verdicts clients place = OneRose before now clients place ⊎ FileRose before now verdicts place

-- a client file is the first that is not read; or all client files were read, and the verdicts are not; or all were read and could not be run
abbrev pub WhyNoRun : {D : Type 0} → Ghosts D → Scene D → Scene D → FileWord → List FileWord → Answer → Type 0
WhyNoRun device before after verdicts clients answer =
    FirstNotRead before.file before.file_faults after.file_faults clients answer
    ⊎ ((handed : List (List FullTx)) × AreRead before.file 0 clients handed
    × (IsNoVerdicts verdicts.place (before.file verdicts.name.now) (before.file_faults verdicts.name.now) (after.file_faults verdicts.name.now) answer
    ⊎ ((known : VerdictFile) × AreVerdicts (before.file verdicts.name.now) known
    × WhyNoTurns device before.disks after.disks (file_turns (file_verdict known) handed) answer)))

-- what is left by a run of the transactions that its files hold, with their verdicts, and that did not come through
abbrev pub RunLeaves : {D : Type 0} → Ghosts D → Scene D → Scene D → FileWord → List FileWord → Answer → Type 0
RunLeaves device before after verdicts clients answer =
    (handed : List (List FullTx)) × AreRead before.file 0 clients handed
    × (known : VerdictFile) × AreVerdicts (before.file verdicts.name.now) known
    × TurnsLeave device before.disks after.disks (file_turns (file_verdict known) handed) answer
