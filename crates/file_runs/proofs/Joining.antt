-- Files, one after another.
use Rattle.std.proofs.Common.{◌≡◌, ℕ, ◌+◌, ◌<◌, List, [], ◌∷◌, ◌++◌, length, take, refl, sym, ap, ◌∙◌, Bool, get_or}
use Rattle.std.proofs.lemmas.List.{append_assoc, take_more}
use Rattle.cbdc_model.specs.Records.{Shape, Record}
use Rattle.cbdc_model.specs.Coins.{FullTx}
use Rattle.cbdc_model.specs.World.{AreIdle}
use Rattle.cbdc_model.specs.Waves.{IsResumed, Waves}
use Rattle.submissions.specs.Checks.{VerdictsOf, TellsSound}
use Rattle.run_laws.proofs.WaveTurns.{waves_begin_law}
use Rattle.ledger_runs.specs.Turning.{OfKept, StaysKept}
use Rattle.file_runs.specs.Runs.{joined}
use Rattle.file_runs.proofs.Filing.{stays_more}

pub joined_append : {A : Type 0} (xs ys : List (List A)) → joined (xs ++ ys) ≡ joined xs ++ joined ys
joined_append [] ys = refl
joined_append (x ∷ xs) ys = ap (λ l. x ++ l) (joined_append xs ys) ∙ sym (append_assoc x (joined xs) (joined ys))

abbrev pub KeepsFiles : Shape → List (List FullTx) → (ℕ → List Record) → (ℕ → List Record) → Type 0
KeepsFiles K files I J = OfKept K I (λ mint submissions. StaysKept K I J mint (submissions ++ joined files))

-- these files have been run
pub record FilesSo (K : Shape) (verdicts : VerdictsOf) (files : List (List FullTx)) (I J : ℕ → List Record) : Type 0 where
  pub idle : AreIdle K J
  pub keeps : KeepsFiles K files I J
  pub waves : OfKept K I (λ _ _. (sound : FullTx → Bool) (E : ℕ → List Record) → TellsSound verdicts sound → IsResumed K E I
      → Waves K sound files E J)

pub files_begin : (K : Shape) (verdicts : VerdictsOf) (I : ℕ → List Record) → AreIdle K I → FilesSo K verdicts [] I I
files_begin K verdicts I idle = record {
  idle = idle;
  keeps = stays_more K I [];
  waves = λ mint submissions kept sound E tells resumed. waves_begin_law K sound E I resumed;
}

pub so_far : (files : List (List FullTx)) (i : ℕ) (file : List FullTx) → i < length files → file ≡ get_or files i file
    → take i files ++ file ∷ [] ≡ take (i + 1) files
so_far files i file low is = ap (λ f. take i files ++ f ∷ []) is ∙ sym (take_more files i file low)
