use Rattle.std.proofs.Common.{◌≡◌, ◌∷◌, arith}
use Rattle.std.proofs.lemmas.Grind.{common_steps}
use Rattle.plain_check.specs.Journals.{journals_in}
use Rattle.plain_check.specs.Summaries.{Fits}
use Rattle.plain_check.proofs.Submitted.{if_front}
use Rattle.plain_check.proofs.reporting.+reports_in.Goals as goal

pub returns : goal.returns
returns g t c =
    let fits = Fits c.args.shape.now (g.V.Verifier.verdict_of c.args.verifier.now) (journals_in c.args.entry.now) (journals_in c.args.exit.now)
    c.args.earlier.now in
    let is : c.args.checked.now ≡ c.in-Some.one.now ∷ c.in-Some.rest.now = grind (arith, common_steps) in
    if_front fits c.args.checked.now c.in-Some.rest.now c.in-Some.one.now c.in_ok-report.report c.in_ok-behind.behind c.with_front.result c.ok.result
    is c.in_ok-report.ensures c.in_ok-behind.ensures c.ok.ensures.value c.with_front.ensures
