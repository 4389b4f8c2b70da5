-- Files that were cut short.
use Rattle.std.proofs.Common.{◌≡◌, ℕ, ◌+◌, ◌<◌, List, [], ◌∷◌, ◌++◌, length, take, drop, refl, sym, ap, ◌∙◌, subst, Bool, get_or}
use Rattle.std.proofs.lemmas.List.{append_assoc, take-append-drop}
use Rattle.cbdc_model.specs.Records.{Shape, Record}
use Rattle.cbdc_model.specs.Coins.{FullTx}
use Rattle.cbdc_model.specs.Lanes.{IsEnd}
use Rattle.cbdc_model.specs.Waves.{IsResumed}
use Rattle.ledger_laws.proofs.Cuts.{end_self}
use Rattle.submissions.specs.Checks.{VerdictsOf, TellsSound}
use Rattle.ledger_runs.specs.Turning.{OfKept}
use Rattle.file_runs.specs.Runs.{joined, HaveBegunFile}
use Rattle.file_runs.specs.Endings.{AreRunOrCut, HasBegunFirst}
use Rattle.file_runs.proofs.Joining.{FilesSo, so_far}
use Rattle.file_runs.proofs.Pieces.{file_unbegun}

abbrev pub CutFiles : Shape → VerdictsOf → List (List FullTx) → (ℕ → List Record) → (ℕ → List Record) → Type 0
CutFiles K verdicts files I X = OfKept K I (λ mint _. (sound : FullTx → Bool) (E : ℕ → List Record) → TellsSound verdicts sound → IsResumed K E I
    → AreRunOrCut K sound files mint E X)

-- behind files that have been run the next one has been begun
pub cut_behind : (K H : Shape) (verdicts : VerdictsOf) (files : List (List FullTx)) (i : ℕ) (file : List FullTx) (I J X : ℕ → List Record) → H ≡ K
    → i < length files → file ≡ get_or files i file
    → FilesSo K verdicts (take i files) I J → ((n : ℕ) → IsEnd (J n) (X n)) → (0 < H.batch → HaveBegunFile H verdicts file J X)
    → CutFiles K verdicts files I X
cut_behind K H verdicts files i file I J X same low is so onward begun mint submissions kept sound E tells resumed = record {
  done = take i files;
  more = file ∷ drop (i + 1) files;
  are = sym (sym (append_assoc (take i files) (file ∷ []) (drop (i + 1) files)) ∙ ap (λ fs. fs ++ drop (i + 1) files) (so_far files i file low is)
      ∙ take-append-drop (i + 1) files);
  middle = J;
  waves = so.waves mint submissions kept sound E tells resumed;
  submissions = submissions ++ joined (take i files);
  kept = (so.keeps mint submissions kept).kept;
  idle = so.idle;
  onward = onward;
  first = λ some lane inside. subst (λ k. 0 < k.batch → HaveBegunFile k verdicts file J X) same begun some lane inside sound tells;
}

-- files none of which has been begun
none_begun : (K : Shape) (verdicts : VerdictsOf) (sound : FullTx → Bool) (more : List (List FullTx)) (I : ℕ → List Record)
    → TellsSound verdicts sound → HasBegunFirst K sound more I I
none_begun K verdicts sound [] I tells = λ n. refl
none_begun K verdicts sound (file ∷ more) I tells = λ some lane inside. file_unbegun K verdicts file I some lane inside sound tells

-- so many have been run, and nothing is behind them
pub cut_at : (K : Shape) (verdicts : VerdictsOf) (files : List (List FullTx)) (i : ℕ) (I J : ℕ → List Record) → FilesSo K verdicts (take i files) I J
    → CutFiles K verdicts files I J
cut_at K verdicts files i I J so mint submissions kept sound E tells resumed = record {
  done = take i files;
  more = drop i files;
  are = sym (take-append-drop i files);
  middle = J;
  waves = so.waves mint submissions kept sound E tells resumed;
  submissions = submissions ++ joined (take i files);
  kept = (so.keeps mint submissions kept).kept;
  idle = so.idle;
  onward = λ n. end_self (J n);
  first = none_begun K verdicts sound (drop i files) J tells;
}
