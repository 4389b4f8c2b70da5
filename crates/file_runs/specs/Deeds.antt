-- Client files as deeds: one file, and the first of some.
use Rattle.std.specs.Prelude.{◌<◌, ℕ, Bool, List, take}
use Rattle.std.specs.Global.{Vec}
use Rattle.cbdc_model.specs.Records.{Shape, Record}
use Rattle.cbdc_model.specs.Coins.{FullTx}
use Rattle.cbdc_model.specs.World.{AreIdle}
use Rattle.cbdc_model.specs.Waves.{IsResumed, IsFileRun, Waves, sent_to}
use Rattle.submissions.specs.Checks.{VerdictsOf, TellsSound, AreChecked}
use Rattle.ledger_runs.specs.Turning.{OfKept}
use Rattle.ledger_runs.specs.Faults.{LanesRest}
use Rattle.file_runs.specs.declared.waves.Wave.{Wave}
use Rattle.file_runs.specs.Runs.{joined, HavePreparedFile, HavePreparedFiles, IsSentPiece, IsFilesPiece, HaveBegunFile, HaveBegunFiles}
use Rattle.file_runs.specs.Endings.{EndsFile, EndsFiles, AreRunOrCut}
use Rattle.file_runs.specs.Telling.{TellsFile, TellFiles}
use Rattle.file_runs.specs.Stretches.{Deed}

-- a file was run: each lane took what the sound submissions send it, in order, and nothing else was done; and what was decided is told
pub record DidFile (K : Shape) (verdicts : VerdictsOf) (file : List FullTx) (I J : ℕ → List Record) (w : Wave) : Type 0 where
  pub idle : AreIdle K J
  pub runs : OfKept K I (λ _ _. (sound : FullTx → Bool) → TellsSound verdicts sound → IsFileRun K (sent_to K sound file) I J)
  pub checked : AreChecked K verdicts file w.checked.items
  pub told : OfKept K I (λ _ _. TellsFile K verdicts file I J w)
  pub prepared : HavePreparedFile K verdicts file I J

-- one file
abbrev pub file_deed : VerdictsOf → List FullTx → Deed Wave
file_deed verdicts file = record {
  handed = file;
  next = λ K I J. IsSentPiece K verdicts file I J;
  did = λ K I J w. DidFile K verdicts file I J w;
  begun = λ K I J. 0 < K.batch → HaveBegunFile K verdicts file I J;
  ends = λ K I J failed may_hold e. EndsFile K verdicts file I J failed may_hold e × LanesRest K J failed;
}

-- files were run: their waves stand behind whatever resuming led to the journals before, and each wave tells the results of its submissions
pub record DidFiles (K : Shape) (verdicts : VerdictsOf) (files : List (List FullTx)) (I J : ℕ → List Record) (ws : List Wave) : Type 0 where
  pub idle : AreIdle K J
  pub waves : OfKept K I (λ _ _. (sound : FullTx → Bool) (E : ℕ → List Record) → TellsSound verdicts sound → IsResumed K E I
      → Waves K sound files E J)
  pub told : OfKept K I (λ _ _. TellFiles K verdicts files I J ws)
  pub prepared : HavePreparedFiles K verdicts files I J

-- the first so many of these files
abbrev pub first_files : VerdictsOf → List (List FullTx) → ℕ → Deed (List Wave)
first_files verdicts files i = record {
  handed = joined (take i files);
  next = λ K I J. IsFilesPiece K verdicts files I J;
  did = λ K I J ws. DidFiles K verdicts (take i files) I J ws;
  begun = λ K I J. (0 < K.batch → HaveBegunFiles K verdicts files I J)
      × OfKept K I (λ mint _. (sound : FullTx → Bool) (E : ℕ → List Record) → TellsSound verdicts sound → IsResumed K E I
      → AreRunOrCut K sound files mint E J);
  ends = λ K I J failed may_hold e. EndsFiles K verdicts files I J failed may_hold e × LanesRest K J failed;
}

-- all of them
abbrev pub files_deed : VerdictsOf → List (List FullTx) → Deed (Vec Wave)
files_deed verdicts files = record {
  handed = joined files;
  next = λ K I J. IsFilesPiece K verdicts files I J;
  did = λ K I J ws. DidFiles K verdicts files I J ws.items;
  begun = λ K I J. (0 < K.batch → HaveBegunFiles K verdicts files I J)
      × OfKept K I (λ mint _. (sound : FullTx → Bool) (E : ℕ → List Record) → TellsSound verdicts sound → IsResumed K E I
      → AreRunOrCut K sound files mint E J);
  ends = λ K I J failed may_hold e. EndsFiles K verdicts files I J failed may_hold e × LanesRest K J failed;
}
