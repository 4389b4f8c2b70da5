-- What a run prints, by what its waves tell.
use Rattle.std.proofs.Common.{ℕ, ◌≤◌, List, ◌++◌, Option}
use Rattle.outside.specs.declared.disk.Disk.{Ghosts}
use Rattle.cbdc_model.specs.Coins.{FullTx}
use Rattle.submissions.specs.SoundTest.{sound_by}
use Rattle.submissions.proofs.Telling.{is_sound_law}
use Rattle.submissions.specs.Checks.{VerdictsOf}
use Rattle.requests.specs.declared.FileWord.{FileWord}
use Rattle.sentinel.specs.Files.{file_verdict as of_file}
use Rattle.input_files.specs.Contents.{all_txs}
use Rattle.line_text.specs.Lines.{Text}
use Rattle.file_runs.specs.Runs.{joined}
use Rattle.file_runs.proofs.Filing.{kept_more}
use Rattle.submission_laws.proofs.Settling.{settled_law}
use Rattle.submission_laws.proofs.Freeing.{free_confirmed_law}
use Rattle.rack_ledgers.specs.Racked.{Disks}
use Rattle.rack_laws.specs.Shown.{OfShown}
use Rattle.file_runs.specs.declared.ran.Ran.{Ran}
use Rattle.rack_runs.specs.Telling.{IsRunTold}
use Rattle.run_command.specs.Outcomes.{DidRun, PrintsRun, WasRun}
use Rattle.run_lines.specs.Told.{IsCountable, ran_text}
use Rattle.run_lines.proofs.Numbers.{lanes_there, run_text, countable}

pub prints_run : {D : Type 0} (device : Ghosts D) (before now : ℕ → Option D) (printed : Text → Type 0) (verdicts : VerdictsOf)
    (files : List (List FullTx)) (ran : Ran) → all_txs files ≤ 1000000
    → OfShown device before (IsRunTold device now verdicts files ran) → (IsCountable ran → printed (ran_text ran))
    → PrintsRun device before now printed verdicts files
prints_run device before now printed verdicts files ran few shown is K mint submissions E within shows kept =
    let told = shown K mint submissions E within shows kept in
    let tests = is_sound_law verdicts in
    let more = kept_more K mint submissions (joined files) E kept in
    record {
      run = told.run;
      text = ran_text ran;
      lines = let t = run_text K verdicts files few within E told.run.exit ran told.tells (sound_by verdicts) tests in
          record { all = t.0; are = t.1.0; unspent = ran.unspent; counted = told.unspent; text_is = t.1.1 };
      prints = is (countable K verdicts files few within E told.run.exit ran told.tells (sound_by verdicts) tests);
      settled = settled_law K mint (submissions ++ joined files) verdicts files E told.run.exit within.some_shard (lanes_there K within) more
          told.run.grown.kept told.run.waves;
      free = free_confirmed_law K mint (submissions ++ joined files) verdicts files E told.run.exit within.some_shard (lanes_there K within) more
          told.run.grown.kept;
    }

pub did_run : {D : Type 0} (device : Ghosts D) (files : Text → Option (List ℕ)) (before after : Disks D) (printed : Text → Type 0)
    (verdicts : FileWord) (clients : List FileWord) (ran : Ran)
    → WasRun device files before after verdicts clients ran → (IsCountable ran → printed (ran_text ran))
    → DidRun device files before after printed verdicts clients
did_run device files before after printed verdicts clients ran was is = record {
  handed = was.handed;
  known = was.known;
  read = was.read;
  verdicts_read = was.verdicts_read;
  caused = was.caused;
  ran = prints_run device before.held after.held printed (of_file was.known) was.handed ran was.few was.tells is;
}
