-- A run as stages, one after another.
use Rattle.std.specs.Prelude.{◌≡◌, ◌*◌, ◌<◌, ℕ, Bool, List, [], ◌∷◌, ◌++◌, Option, Some, None, slice_get}
use Rattle.std.specs.Global.{Vec}
use Rattle.cbdc_types.specs.declared.tx.CompactTx.{CompactTx}
use Rattle.cbdc_model.specs.Records.{Shape, Record}
use Rattle.cbdc_model.specs.Coins.{FullTx}
use Rattle.cbdc_model.specs.Waves.{sent_to, IsResumed, IsFileRun}
use Rattle.submissions.specs.Checks.{VerdictsOf, TellsSound}
use Rattle.plain_check.specs.declared.stages.Stage.{Stage}
use Rattle.plain_check.specs.declared.stages.Stage.TheVariants.{Resume, File}

-- the items of a list, none where there is no list
abbrev pub items_of : Option (Vec CompactTx) → List CompactTx
items_of None = []
items_of (Some list) = list.items

-- what a lane gets, by lists of lanes: nothing past the last list
abbrev pub sent_in : List (Vec CompactTx) → ℕ → List CompactTx
sent_in lists lane = items_of (slice_get lists lane)

-- what a stage makes of journals
abbrev pub StageRuns : Shape → Stage → (ℕ → List Record) → (ℕ → List Record) → Type 0
StageRuns K Resume I J = IsResumed K I J
StageRuns K (File lists) I J = IsFileRun K (sent_in lists.items) I J

-- what stages make of them in turn
abbrev pub RunsBy : Shape → List Stage → (ℕ → List Record) → (ℕ → List Record) → Type 0
RunsBy K [] I J = (n : ℕ) → J n ≡ I n
RunsBy K (stage ∷ stages) I J = (M : ℕ → List Record) × StageRuns K stage I M × RunsBy K stages M J

-- a stage is that of a file: each lane gets what is sent to it
abbrev pub IsFileStage : Shape → (FullTx → Bool) → List FullTx → Stage → Type 0
IsFileStage K sound file Resume = ⊥
IsFileStage K sound file (File lists) = (lane : ℕ) → lane < K.coordinators * K.lanes → sent_in lists.items lane ≡ sent_to K sound file lane

-- stages are those of files, in order
abbrev pub AreFileStages : Shape → (FullTx → Bool) → List (List FullTx) → List Stage → Type 0
AreFileStages K sound [] [] = Unit {0}
AreFileStages K sound [] (stage ∷ stages) = ⊥
AreFileStages K sound (file ∷ files) [] = ⊥
AreFileStages K sound (file ∷ files) (stage ∷ stages) = IsFileStage K sound file stage × AreFileStages K sound files stages

-- by each test that tells sound submissions, the stages of files stand behind what there was
abbrev pub AddsStages : Shape → VerdictsOf → List (List FullTx) → List Stage → List Stage → Type 0
AddsStages K verdicts files old new =
    (more : List Stage) × (new ≡ old ++ more) × ((sound : FullTx → Bool) → TellsSound verdicts sound → AreFileStages K sound files more)
