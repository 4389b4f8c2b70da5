-- What is told of batches that were open, lane after lane.
use Rattle.std.proofs.Common.{◌≡◌, ℕ, zero, suc, ◌+◌, ◌<◌, ◌≤◌, List, ◌++◌, sym, ap, ◌∙◌, subst, add-one, arith, Some, None, Option}
use Rattle.cbdc_model.specs.Records.{Shape, Batch, Record}
use Rattle.cbdc_model.specs.Slots.{slot}
use Rattle.cbdc_model.specs.Ranges.{home_of}
use Rattle.recovery.specs.declared.resumed.ResumedBatch.{ResumedBatch}
use Rattle.run_laws.specs.Turns.{ResumesBatch}
use Rattle.run_laws.specs.WaveSteps.{ResumedSo}
use Rattle.ledger_runs.specs.Turning.{OfKept, StaysKept, TookUp, none_or_one}
use Rattle.ledger_runs.specs.Telling.{IsLanesOpenBatch, IsResumedAt, TellResumed, TakesUp}
use Rattle.ledger_runs.proofs.Stays.{same_outcomes}

-- ---- batches that were open

-- what is told of a lane's batch stays, where another lane's is brought to its end
stays_told : (K : Shape) (lane other : ℕ) (b : Batch) (E I J : ℕ → List Record) (found : Option ResumedBatch) → other < lane → b.lane ≡ lane
    → ResumesBatch K lane b I J
    → IsResumedAt K other E I found → IsResumedAt K other E J found
stays_told K lane other b E I J None low is did told = told
stays_told K lane other b E I J (Some r) low is did told = record {
  batch_is = told.batch_is;
  phase_is = told.phase_is;
  outcomes_are = told.outcomes_are ∙ sym (same_outcomes K b I J did.adds (home_of K other) r.batch
      (λ e. absurd (apart (ap (λ c. c.lane) told.batch_is) (ap (λ c. c.lane) e))));
}
  where
    apart : r.batch.lane ≡ other → r.batch.lane ≡ b.lane → ⊥
    apart x y = omega (arith, x, y, is, low)

all_stay : (K : Shape) (lane n : ℕ) (b : Batch) (E I J : ℕ → List Record) (rs : List ResumedBatch) → n ≤ lane → b.lane ≡ lane
    → ResumesBatch K lane b I J
    → TellResumed K E I n rs → TellResumed K E J n rs
all_stay K lane zero b E I J rs low is did told = told
all_stay K lane (suc n) b E I J rs low is did (before, found, all, at, e) = (
  before,
  found,
  all_stay K lane n b E I J before (omega (arith, low)) is did all,
  stays_told K lane n b E I J found (omega (arith, low)) is did at,
  e,
)

-- the next lane's batch
pub told_next : (K : Shape) (lane : ℕ) (E I J : ℕ → List Record) (before after : List ResumedBatch) → ResumedSo K lane E I
    → TellResumed K E I lane before
    → TakesUp K lane I J before after → TellResumed K E J (suc lane) after
told_next K lane E I J before after so told (None, (idle, same), opened, e) =
    let all : I ≡ J = λ i n. sym (same n) i in
    let slots : slot (I (home_of K lane)) lane ≡ slot (E (home_of K lane)) lane = so.rest lane (omega arith) in
    (before, None, subst (λ X. TellResumed K E X lane before) all told, ap (λ s. s.phase) (sym slots) ∙ idle, e)
told_next K lane E I J before after so told (Some r, did, opened, e) =
    let slots : slot (I (home_of K lane)) lane ≡ slot (E (home_of K lane)) lane = so.rest lane (omega arith) in (
      before,
      Some r,
      all_stay K lane lane r.batch E I J before (omega arith) (ap (λ c. c.lane) opened) did.0 told,
      record {
        batch_is = opened ∙ ap (λ s. record { lane = lane; number = s.number }) slots;
        phase_is = did.1 ∙ ap (λ s. s.phase) slots;
        outcomes_are = did.2;
      },
      e,
    )

-- ---- by what is said of one lane

pub resumed_told : (K H : Shape) (lane : ℕ) (E J L : ℕ → List Record) (before after : List ResumedBatch) → H ≡ K
    → OfKept K E (StaysKept K E J) → OfKept K E (λ _ _. ResumedSo K lane E J) → OfKept K E (λ _ _. TellResumed K E J lane before)
    → OfKept H J (λ _ _. TakesUp H lane J L before after) → OfKept K E (λ _ _. TellResumed K E L (lane + 1) after)
resumed_told K H lane E J L before after e keeps so told takes mint submissions kept =
    let now = subst (λ k. OfKept k J (λ _ _. TakesUp k lane J L before after)) e takes mint submissions (keeps mint submissions kept).kept in
    subst (λ n. TellResumed K E L n after) (sym (add-one lane))
    (told_next K lane E J L before after (so mint submissions kept) (told mint submissions kept) now)

pub takes_found : (K : Shape) (lane : ℕ) (I J : ℕ → List Record) (found : Option ResumedBatch) (before after : List ResumedBatch)
    → OfKept K I (λ _ _. TookUp K lane I J found) → IsLanesOpenBatch K lane I found → after ≡ before ++ none_or_one found
    → OfKept K I (λ _ _. TakesUp K lane I J before after)
takes_found K lane I J found before after took opened e mint submissions kept = (found, took mint submissions kept, opened, e)
