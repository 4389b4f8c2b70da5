-- What becomes of the sound submissions of a run.
use Rattle.std.specs.Prelude.{◌≡◌, ℕ, ◌<◌, ◌*◌, List, Some, take}
use Rattle.cbdc_model.specs.Records.{Shape, Compact, Outcome, Record}
use Rattle.cbdc_model.specs.Coins.{Output, FullTx, compact}
use Rattle.cbdc_model.specs.World.{KeptJournals}
use Rattle.cbdc_model.specs.Waves.{Waves}
use Rattle.cbdc_model.specs.Ranges.{home_of}
use Rattle.cbdc_model.specs.Places.{PlaceIn, outcome_in}
use Rattle.submissions.specs.Checks.{VerdictsOf}
use Rattle.submissions.specs.SoundTest.{sound_by}
use Rattle.printed_lines.specs.declared.report.Report.{Report}
use Rattle.printed_lines.specs.declared.report.Report.TheVariants.{Decided}
use Rattle.printed_lines.specs.Runs.{lane_at, IsReport}
use Rattle.submission_laws.specs.Sent.{IsSent, place_at, IsNewlyPrepared}
use Rattle.submission_laws.specs.Replied.{IsReplied}

-- a sound submission has its place in a Prepare of its lane that came newly, and an outcome by the shards' replies, which the lane's coordinator
-- wrote down; these are what is told of it
pub record IsSubmissionSettled (K : Shape) (verdicts : VerdictsOf) (files : List (List FullTx)) (E X : ℕ → List Record) (k : ℕ) (file : List FullTx)
    (j : ℕ) (t : FullTx) : Type 0 where
  pub place : PlaceIn
  pub outcome : Outcome
  pub place_is : place_at K verdicts files E X k file j ≡ Some place
  pub lane_is : place.batch.lane ≡ lane_at K j
  pub prepared : IsNewlyPrepared K E X place (compact t)
  pub written : outcome_in (X (home_of K place.batch.lane)) place ≡ Some outcome
  pub replied : IsReplied K X place (compact t) outcome
  pub told : (r : Report) → IsReport K verdicts (sound_by verdicts) E X (take k files) file j t r → r ≡ Decided place.batch outcome

-- each sound submission is so, no two have one place, and each transaction of a new Prepare is that of a sound submission at its place
pub record AreSettled (K : Shape) (verdicts : VerdictsOf) (files : List (List FullTx)) (E X : ℕ → List Record) : Type 0 where
  -- each has a place
  pub each : (k j : ℕ) (t : FullTx) (it : IsSent verdicts files k j t) → IsSubmissionSettled K verdicts files E X k it.file j t
  -- no two have one place
  pub one : (k j i h : ℕ) (t u : FullTx) (it : IsSent verdicts files k j t) (other : IsSent verdicts files i h u) (p : PlaceIn)
      → place_at K verdicts files E X k it.file j ≡ Some p → place_at K verdicts files E X i other.file h ≡ Some p → (k ≡ i) × (j ≡ h)
  -- each transaction of a new Prepare is that of a sound submission at its place
  pub nothing_else : (p : PlaceIn) (c : Compact) → IsNewlyPrepared K E X p c
      → (k : ℕ) × (j : ℕ) × (t : FullTx) × (it : IsSent verdicts files k j t) × (place_at K verdicts files E X k it.file j ≡ Some p) × (c ≡ compact t)

-- so it is in every run from kept journals to kept journals
abbrev pub SubmissionSettledLaw : Type 0
SubmissionSettledLaw = (K : Shape) (mint : List Output) (submissions : List FullTx) (verdicts : VerdictsOf) (files : List (List FullTx))
    (E X : ℕ → List Record)
    → 0 < K.shards → 0 < K.coordinators * K.lanes → KeptJournals K mint submissions E → KeptJournals K mint submissions X
    → Waves K (sound_by verdicts) files E X
    → AreSettled K verdicts files E X
