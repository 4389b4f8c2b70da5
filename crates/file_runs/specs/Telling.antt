-- What the waves of files tell of their submissions, and what a run tells of what it did.
use Rattle.std.specs.Prelude.{◌≡◌, ℕ, ◌*◌, Bool, List, [], ◌∷◌, length}
use Rattle.cbdc_model.specs.Records.{Shape, Record}
use Rattle.cbdc_model.specs.Coins.{FullTx}
use Rattle.cbdc_model.specs.Lanes.{IsEnd}
use Rattle.cbdc_model.specs.Waves.{IsFileRun, sent_to}
use Rattle.submissions.specs.Checks.{VerdictsOf, TellsSound, AreChecked}
use Rattle.recovery.specs.declared.resumed.ResumedBatch.{ResumedBatch}
use Rattle.ledger_runs.specs.Telling.{AllTellNew, TellResumed, SamePrepared}
use Rattle.lane_waves.specs.Watchers.{IfSaw}
use Rattle.file_runs.specs.Looking.{AreLooks}
use Rattle.file_runs.specs.declared.waves.Wave.{Wave}

-- of a file that was run from journals I to J: what a sentinel said of each submission, what was decided of those that its lanes got, and what an
-- auditor saw beside them
pub record TellsFile (K : Shape) (verdicts : VerdictsOf) (file : List FullTx) (I J : ℕ → List Record) (w : Wave) : Type 0 where
  pub checked : AreChecked K verdicts file w.checked.items
  pub count : length w.lanes.items ≡ K.coordinators * K.lanes
  pub runs : (sound : FullTx → Bool) → TellsSound verdicts sound → IsFileRun K (sent_to K sound file) I J
  pub tell : AllTellNew K I J w.lanes.items
  pub looked : IfSaw w.looks (AreLooks K J)

-- of files that were run one after another
abbrev pub TellFiles : Shape → VerdictsOf → List (List FullTx) → (ℕ → List Record) → (ℕ → List Record) → List Wave → Type 0
TellFiles K verdicts [] I J ws = (ws ≡ []) × ((n : ℕ) → J n ≡ I n)
TellFiles K verdicts (file ∷ files) I J ws =
    (M : ℕ → List Record) × (w : Wave) × (more : List Wave) × (ws ≡ w ∷ more) × TellsFile K verdicts file I M w × TellFiles K verdicts files M J more

-- from journals E at entry to X: the batches that were open, none of which was prepared newly, and of each file the outcomes of its submissions
pub record TellsRun (K : Shape) (verdicts : VerdictsOf) (files : List (List FullTx)) (E X : ℕ → List Record) (resumed : List ResumedBatch)
    (waves : List Wave) : Type 0 where
  pub middle : ℕ → List Record
  pub grows : (n : ℕ) → IsEnd (E n) (middle n)
  pub batches : TellResumed K E middle (K.coordinators * K.lanes) resumed
  pub unprepared : SamePrepared K E middle
  pub told : TellFiles K verdicts files middle X waves
