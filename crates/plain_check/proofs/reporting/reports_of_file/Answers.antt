use Rattle.std.proofs.Common.{sym, subst}
use Rattle.plain_check.specs.Journals.{journals_in}
use Rattle.submissions.specs.Checks.{AreChecked, AreSubmitted}
use Rattle.plain_check.proofs.Submitted.{ok_has, if_told}
use Rattle.plain_check.proofs.reporting.reports_of_file.Goals as goal

pub returns : goal.returns
returns g c =
    let K = c.args.shape.now in
    let verdicts = g.V.Verifier.verdict_of c.args.verifier.now in
    let submitted = ok_has (AreSubmitted K verdicts c.args.file.now) c.check_all.result c.in_ok-submitted.submitted c.in_ok-submitted.ensures.value
    c.check_all.ensures in
    if_told K verdicts (journals_in c.args.entry.now) (journals_in c.args.exit.now) c.args.earlier.now c.args.file.now c.deref.result.now
    c.reports_in.result
    (subst (λ l. AreChecked K verdicts c.args.file.now l) (sym c.deref.ensures.value) submitted.checked) c.reports_in.ensures
