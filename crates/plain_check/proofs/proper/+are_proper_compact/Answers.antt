use Rattle.std.specs.Prelude.{All}
use Rattle.cbdc_model.specs.Clean.{IsProperCompact}
use Rattle.plain_check.proofs.Propers.{told_of, forms_more}
use Rattle.plain_check.proofs.proper.+are_proper_compact.Goals as goal

pub returns : goal.returns
returns t c =
    told_of c.are_proper_compact.result (All (IsProperCompact c.args.submissions.now) c.in-Some.rest.now)
    (All (IsProperCompact c.args.submissions.now) c.args.ks.now)
    (λ told h. forms_more c.args.submissions.now c.args.ks.now c.in-Some.k.now c.in-Some.rest.now told c.in-Some.ensures.cases.0
    (c.in_ok-is_proper_compact.ensures.0 c.if-not-branch.false) h)
    c.are_proper_compact.ensures
