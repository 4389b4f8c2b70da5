-- Stages one after another are the waves of files, and what they lead through is among the choices.
use Rattle.std.proofs.Common.{◌≡◌, ◌↔◌, ℕ, ◌*◌, ◌<◌, Bool, true, false, List, [], ◌∷◌, ◌++◌, length, slice_index_or, reverse, sym, ap, ◌∙◌, subst}
use Rattle.std.proofs.Common.{rules, append-nil, append_assoc}
use Rattle.std.specs.Prelude.{IsTrue}
use Rattle.cbdc_model.specs.Records.{Shape, Compact, Record}
use Rattle.cbdc_model.specs.Ranges.{home_of}
use Rattle.cbdc_model.specs.Coins.{FullTx}
use Rattle.cbdc_model.specs.World.{AreIdle}
use Rattle.cbdc_model.specs.Lanes.{IsEnd}
use Rattle.cbdc_model.specs.Waves.{Adds, IsCut, prepared, sent_to, IsFileRun, AreFilesRun, Waves}
use Rattle.ledger_laws.proofs.Cuts.{end_trans}
use Rattle.plain_check.specs.Journals.{journals_in}
use Rattle.plain_check.specs.declared.stages.Stage.{Stage}
use Rattle.plain_check.specs.declared.stages.Stage.TheVariants.{Resume, File}
use Rattle.plain_check.specs.Choices.{choices}
use Rattle.submissions.specs.Checks.{VerdictsOf, TellsSound}
use Rattle.plain_check.specs.Stages.{sent_in, StageRuns, RunsBy, IsFileStage, AreFileStages, AddsStages}
use Rattle.plain_check.specs.Adding.{MayAdd, PreparesInPieces}
use Rattle.plain_check.proofs.Choosing.{IsChoice, is_some_choice, IsAt, place_among}

-- a file's run is what its records, its Prepares and its lanes at the end say
pub file_run_by : (K : Shape) (sent : ℕ → List Compact) (I J : ℕ → List Record) (n : ℕ) (told : Bool) → n ≡ K.coordinators * K.lanes
    → Adds (MayAdd false K I J) I J → AreIdle K J
    → (IsTrue told ↔ ((lane : ℕ) → lane < n → PreparesInPieces K lane (sent lane) (I (home_of K lane)) (J (home_of K lane))))
    → IsTrue told ↔ IsFileRun K sent I J
file_run_by K sent I J n told size adds idle h = (
  λ t. record { adds = adds; cut = λ lane lt. h.0 t lane (subst (λ k. lane < k) (sym size) lt); idle = idle },
  λ run. h.1 (λ lane lt. run.cut lane (subst (λ k. lane < k) size lt)),
)

-- a file's run reads what the lanes there are got
sent_alike : (K : Shape) (a b : ℕ → List Compact) (I J : ℕ → List Record) → ((lane : ℕ) → lane < K.coordinators * K.lanes → a lane ≡ b lane)
    → IsFileRun K a I J → IsFileRun K b I J
sent_alike K a b I J same run = record {
  adds = run.adds;
  cut = λ lane lt. subst (λ l. (pieces : List (List Compact)) × IsCut K.batch l pieces
      × (prepared lane (J (home_of K lane)) ≡ reverse pieces ++ prepared lane (I (home_of K lane)))) (same lane lt) (run.cut lane lt);
  idle = run.idle;
}

file_to : (K : Shape) (sound : FullTx → Bool) (file : List FullTx) (s : Stage) (I J : ℕ → List Record) → IsFileStage K sound file s
    → StageRuns K s I J → IsFileRun K (sent_to K sound file) I J
file_to K sound file Resume I J is run = absurd is
file_to K sound file (File lists) I J is run = sent_alike K (sent_in lists.items) (sent_to K sound file) I J is run

file_from : (K : Shape) (sound : FullTx → Bool) (file : List FullTx) (s : Stage) (I J : ℕ → List Record) → IsFileStage K sound file s
    → IsFileRun K (sent_to K sound file) I J → StageRuns K s I J
file_from K sound file Resume I J is run = absurd is
file_from K sound file (File lists) I J is run = sent_alike K (sent_to K sound file) (sent_in lists.items) I J (λ lane lt. sym (is lane lt)) run

files_to : (K : Shape) (sound : FullTx → Bool) (files : List (List FullTx)) (stages : List Stage) (I J : ℕ → List Record)
    → AreFileStages K sound files stages → RunsBy K stages I J → AreFilesRun K sound files I J
files_to K sound [] [] I J are runs = runs
files_to K sound [] (s ∷ stages) I J are runs = absurd are
files_to K sound (file ∷ files) [] I J are runs = absurd are
files_to K sound (file ∷ files) (s ∷ stages) I J are runs =
    (runs.0, file_to K sound file s I runs.0 are.0 runs.1, files_to K sound files stages runs.0 J are.1 runs.2)

files_from : (K : Shape) (sound : FullTx → Bool) (files : List (List FullTx)) (stages : List Stage) (I J : ℕ → List Record)
    → AreFileStages K sound files stages → AreFilesRun K sound files I J → RunsBy K stages I J
files_from K sound [] [] I J are runs = runs
files_from K sound [] (s ∷ stages) I J are runs = absurd are
files_from K sound (file ∷ files) [] I J are runs = absurd are
files_from K sound (file ∷ files) (s ∷ stages) I J are runs =
    (runs.0, file_from K sound file s I runs.0 are.0 runs.1, files_from K sound files stages runs.0 J are.1 runs.2)

-- one stage after another
pub no_stages : (K : Shape) (verdicts : VerdictsOf) (files : List (List FullTx)) (old : List Stage) → files ≡ [] → AddsStages K verdicts files old old
no_stages K verdicts files old e = subst (λ l. AddsStages K verdicts l old old) (sym e) ([], sym (append-nil old), λ sound tells. tt)

pub more_stages : (K : Shape) (verdicts : VerdictsOf) (files : List (List FullTx)) (file : List FullTx) (rest : List (List FullTx)) (s : Stage)
    (old mid new : List Stage)
    → files ≡ file ∷ rest → ((sound : FullTx → Bool) → TellsSound verdicts sound → IsFileStage K sound file s) → mid ≡ old ++ s ∷ []
    → AddsStages K verdicts rest mid new → AddsStages K verdicts files old new
more_stages K verdicts files file rest s old mid new e is m later = subst (λ l. AddsStages K verdicts l old new) (sym e) (
  s ∷ later.0,
  later.1 ∙ ap (λ l. l ++ later.0) m ∙ append_assoc old (s ∷ []) later.0,
  λ sound tells. (is sound tells, later.2 sound tells),
)

-- a run's stages are the resuming and those of its files
pub waves_by : (K : Shape) (sound : FullTx → Bool) (files : List (List FullTx)) (stages : List Stage) (E X : ℕ → List Record)
    → AreFileStages K sound files stages
    → RunsBy K (Resume ∷ stages) E X ↔ Waves K sound files E X
waves_by K sound files stages E X are = (
  λ runs. (runs.0, runs.1, files_to K sound files stages runs.0 X are runs.2),
  λ waves. (waves.0, waves.1, files_from K sound files stages waves.0 X are waves.2),
)

stage_grows : (K : Shape) (s : Stage) (I J : ℕ → List Record) → StageRuns K s I J → (n : ℕ) → IsEnd (I n) (J n)
stage_grows K Resume I J run n = run.adds.grows n
stage_grows K (File lists) I J run n = run.adds.grows n

runs_grow : (K : Shape) (stages : List Stage) (I J : ℕ → List Record) → RunsBy K stages I J → (n : ℕ) → IsEnd (I n) (J n)
runs_grow K [] I J runs n = ([], runs n)
runs_grow K (s ∷ stages) I J runs n = end_trans (I n) (runs.0 n) (J n) (stage_grows K s I runs.0 runs.1 n) (runs_grow K stages runs.0 J runs.2 n)

-- a stage leads to these journals, and the others from there
abbrev pub Leads : Shape → Stage → List Stage → (ℕ → List Record) → (ℕ → List Record) → List (List Record) → Type 0
Leads K s stages I J w = StageRuns K s I (journals_in w) × RunsBy K stages (journals_in w) J

-- where stages lead to journals, they do so through one of the choices
pub record Through (K : Shape) (s : Stage) (stages : List Stage) (I : ℕ → List Record) (all : List (List Record)) : Type 0 where
  pub place : ℕ
  pub inside : place < length (choices all)
  pub leads : Leads K s stages I (journals_in all) (slice_index_or (choices all) place [])

pub through : (K : Shape) (s : Stage) (stages : List Stage) (I : ℕ → List Record) (all : List (List Record))
    → RunsBy K (s ∷ stages) I (journals_in all) → Through K s stages I all
through K s stages I all runs =
    let choice : IsChoice all runs.0 = is_some_choice all runs.0 (runs_grow K stages runs.0 (journals_in all) runs.2) in
    let here : IsAt (choices all) choice.world = place_among (choices all) choice.world choice.among in
    let same : runs.0 ≡ journals_in (slice_index_or (choices all) here.place []) = (λ i n. choice.is n i) ∙ ap journals_in (sym here.is) in
    record {
      place = here.place;
      inside = here.inside;
      leads = subst (λ M. StageRuns K s I M × RunsBy K stages M (journals_in all)) same (runs.1, runs.2);
    }

pub leads_on : (K : Shape) (s : Stage) (stages : List Stage) (I J : ℕ → List Record) (w : List (List Record)) → Leads K s stages I J w
    → RunsBy K (s ∷ stages) I J
leads_on K s stages I J w leads = (journals_in w, leads.0, leads.1)

no_lie : IsTrue false → ⊥
no_lie t = search rules

-- no stage, a choice that was found, and none
pub runs_none : (K : Shape) (stages : List Stage) (I J : ℕ → List Record) (told : Bool) → stages ≡ [] → (IsTrue told ↔ ((n : ℕ) → J n ≡ I n))
    → IsTrue told ↔ RunsBy K stages I J
runs_none K stages I J told e h = subst (λ l. IsTrue told ↔ RunsBy K l I J) (sym e) h

pub runs_found : (K : Shape) (stages : List Stage) (s : Stage) (rest : List Stage) (I J : ℕ → List Record) (w : List (List Record))
    → stages ≡ s ∷ rest → Leads K s rest I J w
    → IsTrue true ↔ RunsBy K stages I J
runs_found K stages s rest I J w e leads = subst (λ l. IsTrue true ↔ RunsBy K l I J) (sym e)
    (λ t. leads_on K s rest I J w leads, λ runs. search rules)

pub runs_not : (K : Shape) (stages : List Stage) (s : Stage) (rest : List Stage) (I : ℕ → List Record) (all : List (List Record))
    (worlds : List (List (List Record))) → stages ≡ s ∷ rest
    → worlds ≡ choices all → ((k : ℕ) → k < length worlds → Leads K s rest I (journals_in all) (slice_index_or worlds k []) → ⊥)
    → IsTrue false ↔ RunsBy K stages I (journals_in all)
runs_not K stages s rest I all worlds e f none = subst (λ l. IsTrue false ↔ RunsBy K l I (journals_in all)) (sym e) (
  λ t. absurd (no_lie t),
  λ runs.
      let here : Through K s rest I all = through K s rest I all runs in
      let never : (k : ℕ) → k < length (choices all) → Leads K s rest I (journals_in all) (slice_index_or (choices all) k []) → ⊥ =
      subst (λ l. (k : ℕ) → k < length l → Leads K s rest I (journals_in all) (slice_index_or l k []) → ⊥) f none in
      absurd (never here.place here.inside here.leads),
)
