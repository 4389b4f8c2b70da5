use Rattle.std.proofs.Common.{◌∙◌, subst}
use Rattle.std.specs.Prelude.{IsTrue}
use Rattle.cbdc_model.specs.Clean.{IsProperCompact}
use Rattle.plain_check.proofs.Propers.{told_of, no_lie, proper_later}
use Rattle.plain_check.proofs.proper.+is_proper_compact.Goals as goal

pub returns : goal.returns
returns t c =
    told_of c.is_proper_compact.result (IsProperCompact c.in-Some.rest.now c.args.k.now) (IsProperCompact c.args.submissions.now c.args.k.now)
    (λ told h. proper_later c.args.submissions.now c.in-Some.t.now c.in-Some.rest.now c.args.k.now told c.in-Some.ensures.cases.0
    (λ proper form. no_lie (subst IsTrue c.if-is_form.false (c.is_form.ensures.1 (proper, c.in_ok-own.ensures ∙ form)))) h)
    c.is_proper_compact.ensures
