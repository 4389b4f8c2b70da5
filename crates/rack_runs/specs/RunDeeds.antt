-- The resuming of a ledger's lanes as a deed, and client files behind it.
use Rattle.std.specs.Prelude.{◌≡◌, ◌⊎◌, ◌*◌, ℕ, List, []}
use Rattle.cbdc_types.specs.Limits.{IsWithinLimits}
use Rattle.cbdc_model.specs.Records.{Shape, Record}
use Rattle.cbdc_model.specs.Coins.{FullTx}
use Rattle.cbdc_model.specs.Lanes.{IsEnd}
use Rattle.cbdc_model.specs.World.{AreIdle}
use Rattle.cbdc_model.specs.Waves.{IsResumed}
use Rattle.lane_driver.specs.declared.fault.LaneFaultKind.TheVariants.{Memory as NoMemory}
use Rattle.recovery.specs.declared.resumed.ResumedBatch.{ResumedBatch}
use Rattle.submissions.specs.Checks.{VerdictsOf}
use Rattle.ledger_runs.specs.Turning.{OfKept, StaysKept}
use Rattle.ledger_runs.specs.Telling.{SamePrepared, TellResumed}
use Rattle.ledger_runs.specs.Least.{IsUnbegunForMemory, IsLeastOpen}
use Rattle.ledger_runs.specs.Faults.{TakesInOrder, AllRestOrWait}
use Rattle.file_runs.specs.declared.waves.Wave.{Wave}
use Rattle.file_runs.specs.Runs.{joined}
use Rattle.file_runs.specs.Stretches.{Deed}
use Rattle.file_runs.specs.Deeds.{DidFiles}
use Rattle.rack_runs.specs.Endings.{EndsRun}
use Rattle.rack_runs.specs.Resting.{AllRestBehind}
use Rattle.rack_runs.specs.Runs.{AddsOpen, NothingNext, PieceNext, PiecesPrepared}

-- open batches were brought to their end, each told in order
pub record DidResume (K : Shape) (E M : ℕ → List Record) (rs : List ResumedBatch) : Type 0 where
  pub idle : AreIdle K M
  pub resumed : OfKept K E (λ _ _. IsResumed K E M)
  pub told : OfKept K E (λ _ _. TellResumed K E M (K.coordinators * K.lanes) rs)

-- the open batches of a ledger's lanes
abbrev pub resume_deed : Deed (List ResumedBatch)
resume_deed = record {
  handed = [];
  next = NothingNext;
  did = λ K E M rs. DidResume K E M rs;
  begun = λ K E M. SamePrepared K E M × TakesInOrder K E M × (IsWithinLimits K → OfKept K E (λ _ _. AddsOpen K E M));
  ends = λ K E M failed may_hold e. IsLeastOpen K E M failed may_hold e × (IsUnbegunForMemory E M e ⊎ AllRestOrWait K E M failed (λ _. Unit {0}));
}

-- what a run tells: the batches that were open, and each file's wave
pub record RanAll : Type 0 where
  pub resumed : List ResumedBatch
  pub waves : List Wave

-- a run came through: open batches are at their end in journals M, and files were run from there
pub record DidRunAll (K : Shape) (verdicts : VerdictsOf) (files : List (List FullTx)) (E X : ℕ → List Record) (ran : RanAll) : Type 0 where
  pub middle : ℕ → List Record
  pub grows : (n : ℕ) → IsEnd (E n) (middle n)
  pub keeps : OfKept K E (StaysKept K E middle)
  pub unprepared : SamePrepared K E middle
  pub back : DidResume K E middle ran.resumed
  pub behind : DidFiles K verdicts files middle X ran.waves

-- a run of client files, from the journals at entry
abbrev pub run_deed : VerdictsOf → List (List FullTx) → Deed RanAll
run_deed verdicts files = record {
  handed = joined files;
  next = PieceNext verdicts files;
  did = λ K E X ran. DidRunAll K verdicts files E X ran;
  begun = λ K E X. IsWithinLimits K → PiecesPrepared verdicts files K E X;
  ends = λ K E X failed may_hold e. EndsRun verdicts files K E X failed may_hold e × AllRestBehind K E X failed (e.fault ≡ NoMemory);
}
