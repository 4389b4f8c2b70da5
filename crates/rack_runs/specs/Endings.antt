-- Whose fault ends a run.
use Rattle.std.specs.Prelude.{◌≡◌, ◌⊎◌, ℕ, ◌<◌, Bool, List, length}
use Rattle.cbdc_types.specs.declared.answer.Answer.{Answer}
use Rattle.cbdc_types.specs.declared.answer.Answer.TheVariants as answers
use Rattle.cbdc_model.specs.Records.{Shape, Record}
use Rattle.cbdc_model.specs.Coins.{Output, FullTx}
use Rattle.cbdc_model.specs.Lanes.{IsEnd}
use Rattle.cbdc_model.specs.World.{AreIdle}
use Rattle.lane_driver.specs.declared.fault.LaneFault.{LaneFault}
use Rattle.submissions.specs.Checks.{VerdictsOf}
use Rattle.ledger_runs.specs.Telling.{SamePrepared}
use Rattle.ledger_runs.specs.Faults.{TakesInOrder}
use Rattle.ledger_runs.specs.Least.{IsLeastOpen}
use Rattle.file_runs.specs.Endings.{EndsFiles, AreRunOrCut}
use Rattle.rack_runs.specs.Kinds.{answer_to}

-- from journals E at entry to X: the fault came as open batches were brought to their end, nothing was prepared newly, and it is that of the least
-- lane that met one; or these are at their end, nothing was prepared newly meanwhile, and the fault ended the files behind that
abbrev pub EndsRun : VerdictsOf → List (List FullTx) → Shape → (ℕ → List Record) → (ℕ → List Record) → (ℕ → Type 0) → (ℕ → ℕ → Type 0) → LaneFault
    → Type 0
EndsRun verdicts files K E X failed may_hold e =
    (SamePrepared K E X × IsLeastOpen K E X failed may_hold e)
    ⊎ ((middle : ℕ → List Record) × ((n : ℕ) → IsEnd (E n) (middle n)) × SamePrepared K E middle × AreIdle K middle
    × EndsFiles K verdicts files middle X failed may_hold e)

-- all came through, and memory ran out behind that; or the answer is that to a fault that ended it
abbrev pub IsLeastAnswer : Type 0 → (LaneFault → Type 0) → Answer → Type 0
IsLeastAnswer through ends answer = ((answer ≡ answers.Memory) × through) ⊎ ((e : LaneFault) × (answer ≡ answer_to e) × ends e)

-- open batches are taken up in rising order of their lanes, and nothing else comes before all lanes are idle
abbrev pub IsInOrder : Shape → (ℕ → List Record) → (ℕ → List Record) → Type 0
IsInOrder K E X = (middle : ℕ → List Record) × TakesInOrder K E middle
    × (((n : ℕ) → X n ≡ middle n) ⊎ (AreIdle K middle × ((n : ℕ) → IsEnd (middle n) (X n))))

-- from kept journals E to X a run came through or was cut short: nothing was prepared newly; or there are files, and they were run or cut short
abbrev pub IsRunOrCut : Shape → (FullTx → Bool) → List (List FullTx) → List Output → (ℕ → List Record) → (ℕ → List Record) → Type 0
IsRunOrCut K sound files mint E X = SamePrepared K E X ⊎ ((0 < length files) × AreRunOrCut K sound files mint E X)
