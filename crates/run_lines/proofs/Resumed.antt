-- How many batches a run or a recovery tells that it resumed.
use Rattle.std.proofs.Common.{◌≡◌, ℕ, zero, suc, ◌+◌, if◌then◌else◌, List, length, Option, Some, None, refl, sym, ap, ◌∙◌}
use Rattle.std.specs.Prelude.{is_some}
use Rattle.std.proofs.lemmas.List.{length-append}
use Rattle.cbdc_types.specs.declared.batch.Phase.{Phase as OpenPhase}
use Rattle.cbdc_types.specs.declared.batch.Phase.TheVariants.{Prepared, Committed, Discarded}
use Rattle.cbdc_model.specs.Records.{Shape, Record}
use Rattle.cbdc_model.specs.Ranges.{home_of}
use Rattle.cbdc_model.specs.Slots.{slot}
use Rattle.recovery.specs.declared.resumed.ResumedBatch.{ResumedBatch}
use Rattle.recovery.specs.Open.{phase_of}
use Rattle.printed_lines.specs.Recoveries.{open_phase, open_below}
use Rattle.ledger_runs.specs.Turning.{none_or_one}
use Rattle.ledger_runs.specs.Telling.{IsResumedAt, TellResumed}

pub phase_open : (p : OpenPhase) → open_phase (phase_of p) ≡ Some p
phase_open Prepared = refl
phase_open Committed = refl
phase_open Discarded = refl

count_at : (K : Shape) (lane : ℕ) (E X : ℕ → List Record) (found : Option ResumedBatch) → IsResumedAt K lane E X found
    → length (none_or_one found) ≡ (if is_some (open_phase (slot (E (home_of K lane)) lane).phase) then 1 else 0)
count_at K lane E X None at = sym (ap (λ p. if is_some (open_phase p) then 1 else 0) at)
count_at K lane E X (Some r) at = ap (λ p. if is_some p then 1 else 0) (sym (phase_open r.phase) ∙ ap open_phase at.phase_is)

-- of the lanes below n
pub count_below : (K : Shape) (E X : ℕ → List Record) (n : ℕ) (rs : List ResumedBatch) → TellResumed K E X n rs → length rs ≡ open_below K E n
count_below K E X zero rs none = ap length none
count_below K E X (suc lane) rs (before, found, all, at, e) =
    ap length e ∙ length-append before (none_or_one found) ∙ ap (λ m. m + length (none_or_one found)) (count_below K E X lane before all)
    ∙ ap (λ m. open_below K E lane + m) (count_at K lane E X found at)
