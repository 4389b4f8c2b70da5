-- What is told of a submission as confirmed is among the committed transactions of its batch.
use Rattle.std.proofs.Common.{◌≡◌, ℕ, List, Some, sym, ap, ◌∙◌, subst}
use Rattle.cbdc_model.specs.Records.{Shape, Batch, Outcome, Record, Row, journal, txs_of, outcomes_of, Won}
use Rattle.cbdc_model.specs.Ranges.{home_of}
use Rattle.cbdc_model.specs.Outcomes.{won_txs}
use Rattle.cbdc_model.specs.Coins.{FullTx, compact}
use Rattle.cbdc_model.specs.History.{won_of}
use Rattle.cbdc_model.specs.Places.{outcome_at}
use Rattle.ledger_laws.proofs.Members.{In}
use Rattle.submissions.specs.Checks.{VerdictsOf}
use Rattle.printed_lines.specs.declared.report.Report.TheVariants.{Decided}
use Rattle.submission_laws.specs.Sent.{IsSent}
use Rattle.submission_laws.specs.Settled.{IsSubmissionSettled}
use Rattle.submission_laws.specs.Free.{IsSubmissionConfirmed}
use Rattle.submission_laws.proofs.Worlds.{won_there}

outcomes_same : (b c : Batch) (o q : Outcome) → Decided b o ≡ Decided c q → o ≡ q
outcomes_same b c o q e = cc

pub is_committed : (K : Shape) (verdicts : VerdictsOf) (files : List (List FullTx)) (E X : ℕ → List Record) (past : List Row) (k j : ℕ) (t : FullTx)
    (it : IsSent verdicts files k j t)
    → ((n : ℕ) → journal n past ≡ X n) → (s : IsSubmissionSettled K verdicts files E X k it.file j t)
    → IsSubmissionConfirmed K verdicts files E X k it.file j t
    → In (compact t) (won_of K past s.place.batch)
is_committed K verdicts files E X past k j t it same s c =
    let told : Decided c.batch Won ≡ Decided s.place.batch s.outcome = s.told (Decided c.batch Won) (it.sound, c.decided) in
    let won : s.outcome ≡ Won = sym (outcomes_same c.batch s.place.batch Won s.outcome told) in
    let written : outcome_at (outcomes_of (X (home_of K s.place.batch.lane)) s.place.batch) s.place.at ≡ Some Won = s.written ∙ ap (λ o. Some o) won
    in
    let there : In (compact t) (won_txs (txs_of (X (home_of K s.place.batch.lane)) s.place.batch)
    (outcomes_of (X (home_of K s.place.batch.lane)) s.place.batch))
    = won_there (txs_of (X (home_of K s.place.batch.lane)) s.place.batch) (outcomes_of (X (home_of K s.place.batch.lane)) s.place.batch) s.place.at
    (compact t) s.prepared.holds written in
    subst (λ L. In (compact t) (won_txs (txs_of L s.place.batch) (outcomes_of L s.place.batch))) (sym (same (home_of K s.place.batch.lane))) there
