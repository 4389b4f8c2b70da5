-- What `run` does over a ledger, and what `recover` does.
use Rattle.std.specs.Prelude.{◌≡◌, ℕ, Bool, List, []}
use Rattle.std.specs.Global.{Vec}
use Rattle.cbdc_model.specs.Records.{Shape, Record}
use Rattle.cbdc_model.specs.Coins.{FullTx}
use Rattle.cbdc_model.specs.Waves.{IsResumed, Waves}
use Rattle.submissions.specs.Checks.{VerdictsOf, TellsSound}
use Rattle.ledger_runs.specs.Turning.{OfKept}
use Rattle.file_runs.specs.declared.waves.Wave.{Wave}
use Rattle.file_runs.specs.Runs.{HaveBegunFiles}
use Rattle.file_runs.specs.Endings.{EndsFiles}
use Rattle.file_runs.specs.Telling.{TellFiles}
use Rattle.rack_runs.specs.Runs.{IsCutWaves, NothingNext, PieceNext}
use Rattle.rack_runs.specs.Works.{Deed, IsOpenOnly}

-- files were run from journals M to X: their waves stand behind whatever resuming M led to, and each wave tells the results of its submissions
abbrev pub RanFiles : VerdictsOf → List (List FullTx) → Shape → (ℕ → List Record) → (ℕ → List Record) → List Wave → Type 0
RanFiles verdicts files K M X waves =
    ((sound : FullTx → Bool) (E : ℕ → List Record) → TellsSound verdicts sound → IsResumed K E M → Waves K sound files E X)
    × TellFiles K verdicts files M X waves

-- client files, one after another
abbrev pub files_deed : VerdictsOf → List (List FullTx) → Deed (Vec Wave)
files_deed verdicts files = record {
  handed = files;
  next = PieceNext verdicts files;
  ends = λ K M X failed may_hold e. EndsFiles K verdicts files M X failed may_hold e;
  begun = λ K E X. HaveBegunFiles K verdicts files E X
      × OfKept K E (λ _ _. (sound : FullTx → Bool) → TellsSound verdicts sound → IsCutWaves K sound files E X);
  did = λ K M X waves. OfKept K M (λ _ _. RanFiles verdicts files K M X waves.items);
}

-- no work: nothing is handed in, and the journals stay as they were
abbrev pub no_deed : Deed (Unit {0})
no_deed = record {
  handed = [];
  next = NothingNext;
  ends = λ K M X failed may_hold e. ⊥;
  begun = λ K E X. IsOpenOnly K E X;
  did = λ K M X _. (n : ℕ) → X n ≡ M n;
}
