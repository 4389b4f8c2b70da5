-- The lines of a recovery, by what its batches tell.
use Rattle.std.proofs.Common.{◌≡◌, ℕ, zero, suc, ◌+◌, ◌*◌, true, false, if◌then◌else◌, List, [], ◌∷◌, ◌++◌, length, take, drop, drop-cons, add-one}
use Rattle.std.proofs.Common.{get_or, ◌<◌, ◌≤◌, Option, Some, None, refl, sym, ap, ◌∙◌, subst, arith, append_assoc}
use Rattle.std.specs.List.{filter}
use Rattle.std.specs.Prelude.{not}
use Rattle.std.proofs.lemmas.List.{append-nil, length-append, take_more}
use Rattle.std.proofs.lemmas.List.Elements.{filter-append}
use Rattle.std.proofs.Math.ListN.{drop_of_length-le}
use Rattle.outside.specs.declared.disk.Disk.{Ghosts}
use Rattle.cbdc_model.specs.Records.{Shape, Outcome, Record, is_won, outcomes_of, Won, Lacks, Blocked}
use Rattle.cbdc_model.specs.Ranges.{home_of}
use Rattle.cbdc_model.specs.Slots.{slot}
use Rattle.recovery.specs.declared.resumed.ResumedBatch.{ResumedBatch}
use Rattle.line_text.specs.Lines.{Text}
use Rattle.line_text.specs.Reports.{recovery_text, resumed_line}
use Rattle.printed_lines.specs.Recoveries.{open_phase, won_in, lost_in, batch_line, lane_line, resumed_below, resumed_lines, recover_lines}
use Rattle.ledger_runs.specs.Turning.{none_or_one}
use Rattle.ledger_runs.specs.Telling.{IsResumedAt, TellResumed}
use Rattle.submissions.specs.Checks.{VerdictsOf}
use Rattle.rack_laws.specs.Shown.{OfShown}
use Rattle.file_runs.specs.declared.ran.Ran.{Ran}
use Rattle.rack_runs.specs.Telling.{IsRunTold}
use Rattle.rack_runs.proofs.Ledgers.{recovered}
use Rattle.run_command.specs.RecoverOutcomes.{PrintsRecovery}
use Rattle.run_command.specs.Texts.{batch_text, batch_texts}
use Rattle.run_lines.proofs.Resumed.{phase_open, count_below}

abbrev won : List Outcome → List Outcome
won os = filter is_won os

abbrev lost : List Outcome → List Outcome
lost os = filter (λ o. not (is_won o)) os

-- each outcome commits or does not
pub won_or_lost : (os : List Outcome) → won_in os + lost_in os ≡ length os
won_or_lost [] = refl
won_or_lost (o ∷ os) = let rest = won_or_lost os in
    elim (is_won o) as (λ b. length (if b then o ∷ won os else won os) + length (if not b then o ∷ lost os else lost os) ≡ suc (length os)) [
      | true ↦ omega (arith, rest)
      | false ↦ omega (arith, rest)
    ]

pub won_one : (o : Outcome) → won_in (o ∷ []) ≤ 1
won_one Won = omega arith
won_one (Lacks shard x) = omega arith
won_one (Blocked shard x by) = omega arith

-- one outcome more
pub won_next : (os : List Outcome) (i : ℕ) (o : Outcome) → i < length os → o ≡ get_or os i o
    → won_in (take (i + 1) os) ≡ won_in (take i os) + won_in (o ∷ [])
won_next os i o low is =
    ap won_in (take_more os i o low ∙ ap (λ x. take i os ++ x ∷ []) (sym is)) ∙ ap length (filter-append is_won (take i os) (o ∷ []))
    ∙ length-append (filter is_won (take i os)) (filter is_won (o ∷ []))

both_texts : (rs bs : List ResumedBatch) → batch_texts (rs ++ bs) ≡ batch_texts rs ++ batch_texts bs
both_texts [] bs = refl
both_texts (r ∷ rs) bs = ap (λ l. batch_text r ++ l) (both_texts rs bs) ∙ sym (append_assoc (batch_text r) (batch_texts rs) (batch_texts bs))

-- the next batch, and those behind it
pub next_text : (rs : List ResumedBatch) (i : ℕ) (r : ResumedBatch) (tail : Text) → i < length rs → r ≡ get_or rs i r
    → batch_texts (drop i rs) ++ tail ≡ batch_text r ++ (batch_texts (drop (i + 1) rs) ++ tail)
next_text rs i r tail low is =
    ap (λ l. batch_texts l ++ tail) (drop-cons rs i r low ∙ ap (λ x. x ∷ drop (suc i) rs) (sym is) ∙ ap (λ n. r ∷ drop n rs) (sym (add-one i)))
    ∙ append_assoc (batch_text r) (batch_texts (drop (i + 1) rs)) tail

pub no_text : (rs : List ResumedBatch) (i : ℕ) (tail : Text) → length rs ≤ i → batch_texts (drop i rs) ++ tail ≡ tail
no_text rs i tail past = ap (λ l. batch_texts l ++ tail) (drop_of_length-le rs past)

-- the line of a lane's batch
text_at : (K : Shape) (lane : ℕ) (E X : ℕ → List Record) (found : Option ResumedBatch) → IsResumedAt K lane E X found
    → batch_texts (none_or_one found) ≡ lane_line lane (E (home_of K lane)) (X (home_of K lane))
text_at K lane E X None at = sym (ap (λ p. batch_line (X (home_of K lane)) (record { lane = lane; number = (slot (E (home_of K lane)) lane).number })
    (open_phase p)) at)
text_at K lane E X (Some r) at =
    let J = X (home_of K lane) in
    append-nil (batch_text r)
    ∙ ap (λ os. resumed_line r.batch r.phase (won_in os) (lost_in os)) at.outcomes_are
    ∙ ap (λ b. resumed_line b r.phase (won_in (outcomes_of J b)) (lost_in (outcomes_of J b))) at.batch_is
    ∙ ap (λ p. batch_line J (record { lane = lane; number = (slot (E (home_of K lane)) lane).number }) p)
    (sym (phase_open r.phase) ∙ ap open_phase at.phase_is)

-- of the lanes below n
texts_below : (K : Shape) (E X : ℕ → List Record) (n : ℕ) (rs : List ResumedBatch) → TellResumed K E X n rs → batch_texts rs ≡ resumed_below K E X n
texts_below K E X zero rs none = ap batch_texts none
texts_below K E X (suc lane) rs (before, found, all, at, e) =
    ap batch_texts e ∙ both_texts before (none_or_one found) ∙ ap (λ l. l ++ batch_texts (none_or_one found)) (texts_below K E X lane before all)
    ∙ ap (λ l. resumed_below K E X lane ++ l) (text_at K lane E X found at)

-- what a recovery prints
abbrev pub recovered_text : Ran → Text
recovered_text ran = batch_texts ran.resumed.items ++ recovery_text (length ran.resumed.items) ran.unspent

pub prints_recovery : {D : Type 0} (device : Ghosts D) (before now : ℕ → Option D) (printed : Text → Type 0) (ran : Ran)
    → (verdicts : VerdictsOf) × OfShown device before (IsRunTold device now verdicts [] ran) → printed (recovered_text ran)
    → PrintsRecovery device before now printed
unfolding recovered
prints_recovery device before now printed ran (verdicts, shown) is K mint submissions E within shows kept =
    let told = shown K mint submissions E within shows kept in
    let at : told.tells.middle ≡ told.run.exit = λ i n. sym (told.tells.told.1 n) i in
    let all : TellResumed K E told.run.exit (K.coordinators * K.lanes) ran.resumed.items =
    subst (λ X. TellResumed K E X (K.coordinators * K.lanes) ran.resumed.items) at told.tells.batches in
    let text_is : recovered_text ran ≡ recover_lines K E told.run.exit ran.unspent
    = ap (λ l. l ++ recovery_text (length ran.resumed.items) ran.unspent)
    (texts_below K E told.run.exit (K.coordinators * K.lanes) ran.resumed.items all)
    ∙ ap (λ n. resumed_lines K E told.run.exit ++ recovery_text n ran.unspent)
    (count_below K E told.run.exit (K.coordinators * K.lanes) ran.resumed.items all) in
    record {
      recovered = recovered device now verdicts K mint submissions E told.run;
      text = recovered_text ran;
      lines = (ran.unspent, told.unspent, text_is);
      prints = is;
    }
