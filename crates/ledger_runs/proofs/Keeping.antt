-- Lane after lane: what stays kept, and which open batches are at their end.
use Rattle.std.proofs.Common.{◌≡◌, ◌≢◌, ◌⊎◌, inl, inr, true, false, ◌==◌, ℕ, suc, ◌+◌, ◌*◌, ◌<◌, List, ◌++◌, refl, sym, ◌∙◌, subst, add-one, arith}
use Rattle.std.proofs.Common.{Option, Some, None}
use Rattle.std.proofs.lemmas.Bool.{false≢true}
use Rattle.std.proofs.lemmas.Bool.Decides.{eqb_tells}
use Rattle.ledger_laws.proofs.Cuts.{end_self, end_trans}
use Rattle.cbdc_model.specs.Records.{Shape, Record}
use Rattle.cbdc_model.specs.Slots.{Idle}
use Rattle.recovery.specs.declared.resumed.ResumedBatch.{ResumedBatch}
use Rattle.run_laws.specs.WaveSteps.{ResumedSo, ResumingStepLaw, ResumingSkipLaw}
use Rattle.ledger_runs.specs.Keeping.{KeepsLedger}
use Rattle.ledger_runs.specs.Turning.{lane_phase, OfKept, StaysKept, KeepsLanes, none_or_one, TookUp, TookUpOne}
use Rattle.std.specs.Prelude.{Result, Ok, Err, OnOk, IsOk}

pub lt_or_eq : (l lane : ℕ) → l < lane + 1 → (l < lane) ⊎ (l ≡ lane)
lt_or_eq l lane low = go (eqb_tells l lane)
  where
    go : (((l == lane) ≡ true) × (l ≡ lane)) ⊎ (((l == lane) ≡ false) × (l ≢ lane)) → (l < lane) ⊎ (l ≡ lane)
    go (inl (b, same)) = inr same
    go (inr (b, other)) = inl (omega (arith, low, other))

pub stays : (K : Shape) (I : ℕ → List Record) → OfKept K I (StaysKept K I I)
stays K I mint submissions kept = record { grows = λ n. end_self (I n); kept = kept }

pub stays_on : (K : Shape) (I J L : ℕ → List Record) → OfKept K I (StaysKept K I J) → OfKept K J (StaysKept K J L) → OfKept K I (StaysKept K I L)
stays_on K I J L one two mint submissions kept =
    let a = one mint submissions kept in
    let b = two mint submissions a.kept in
    record { grows = λ n. end_trans (I n) (J n) (L n) (a.grows n) (b.grows n); kept = b.kept }

-- the next lane was taken up
pub resumes_on : ResumingStepLaw → ResumingSkipLaw → (K : Shape) (lane : ℕ) (E J L : ℕ → List Record) (found : Option ResumedBatch)
    → ResumedSo K lane E J → TookUp K lane J L found → ResumedSo K (lane + 1) E L
resumes_on step skip K lane E J L (Some r) so took = subst (λ l. ResumedSo K l E L) (sym (add-one lane)) (step K lane r.batch E J L so took.0)
resumes_on step skip K lane E J L None so (idle, same) =
    let all : J ≡ L = λ i n. sym (same n) i in
    let on : ResumedSo K (suc lane) E J = skip K lane (suc lane) E J so (omega arith)
    (λ l low high. subst (λ m. lane_phase K J m ≡ Idle) (omega arith) idle) in
    subst (λ X. ResumedSo K (lane + 1) E X) all (subst (λ l. ResumedSo K l E J) (sym (add-one lane)) on)

pub stays_next : (K H : Shape) (I J L : ℕ → List Record) → H ≡ K → OfKept K I (StaysKept K I J) → OfKept H J (StaysKept H J L)
    → OfKept K I (StaysKept K I L)
stays_next K H I J L e one two = stays_on K I J L one (subst (λ k. OfKept k J (StaysKept k J L)) e two)

-- what holds where it is whole holds of it
pub of_ok : {A E : Type 0} (r : Result A E) (X : Type 0) → IsOk r → OnOk r X → X
of_ok (Ok a) X ok so = so
of_ok (Err e) X ok so = absurd (false≢true ok)

-- the lanes that were taken up are idle
pub idle_next : (K H : Shape) (lane : ℕ) (J L : ℕ → List Record) → H ≡ K → lane < K.coordinators * K.lanes
    → ((l : ℕ) → l < lane → lane_phase K J l ≡ Idle) → KeepsLanes H lane J L → lane_phase H L lane ≡ Idle → (l : ℕ) → l < lane + 1
    → lane_phase K L l ≡ Idle
idle_next K H lane J L e below before others now l low = go (lt_or_eq l lane low)
  where
    go : (l < lane) ⊎ (l ≡ lane) → lane_phase K L l ≡ Idle
    go (inl less) = subst (λ k. KeepsLanes k lane J L) e others l (omega arith) (λ h. absurd (omega (arith, h, less))) ∙ before l less
    go (inr same) = subst (λ k. lane_phase k L l ≡ Idle) e (subst (λ m. lane_phase H L m ≡ Idle) (sym same) now)

pub so_next : ResumingStepLaw → ResumingSkipLaw → (K H : Shape) (lane : ℕ) (E J L : ℕ → List Record) (before after : List ResumedBatch) → H ≡ K
    → OfKept K E (StaysKept K E J) → OfKept K E (λ _ _. ResumedSo K lane E J) → OfKept H J (λ _ _. TookUpOne H lane J L before after)
    → OfKept K E (λ _ _. ResumedSo K (lane + 1) E L)
so_next step skip K H lane E J L before after e keeps so took mint submissions kept =
    let now = subst (λ k. OfKept k J (λ _ _. TookUpOne k lane J L before after)) e took mint submissions (keeps mint submissions kept).kept in
    resumes_on step skip K lane E J L now.0 (so mint submissions kept) now.1

pub keeps_found : (K : Shape) (lane : ℕ) (I J : ℕ → List Record) (found : Option ResumedBatch) (before after : List ResumedBatch)
    → OfKept K I (λ _ _. TookUp K lane I J found) → after ≡ before ++ none_or_one found → OfKept K I (λ _ _. TookUpOne K lane I J before after)
keeps_found K lane I J found before after took e mint submissions kept = (found, took mint submissions kept, e)

-- what a call keeps of a ledger's nodes, others behind it keep
module _ {L : Type 0} {shape : L → Shape} {opened faults capacity : L → ℕ → ℕ} {holds : L → Type 0} where
  pub ledger_same : (l : L) → KeepsLedger shape opened faults capacity holds l l
  ledger_same l = record { shape_same = refl; opened_same = λ n. refl; later = λ n. omega arith; capacity_same = λ n. refl; held = λ h. h }

  pub ledger_on : {k l m : L} → KeepsLedger shape opened faults capacity holds k l → KeepsLedger shape opened faults capacity holds l m
      → KeepsLedger shape opened faults capacity holds k m
  ledger_on {k} {l} {m} a b = record {
    shape_same = b.shape_same ∙ a.shape_same;
    opened_same = λ n. b.opened_same n ∙ a.opened_same n;
    later = λ n. omega (arith, a.later n, b.later n);
    capacity_same = λ n. b.capacity_same n ∙ a.capacity_same n;
    held = λ h. b.held (a.held h);
  }
