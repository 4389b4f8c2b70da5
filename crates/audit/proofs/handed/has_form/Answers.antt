use Rattle.std.proofs.Common.{◌∙◌, ap, arith}
use Rattle.cbdc_model.specs.History.{same_compact}
use Rattle.audit.proofs.Aside.{as_many, form_at}
use Rattle.audit.proofs.handed.has_form.Goals as goal

pub returns-in-Some : goal.returns-in-Some
returns-in-Some c = λ txs t h lt is.
    c.is_same_compact.ensures ∙ ap (λ x. same_compact x c.args.form.now)
    (form_at txs c.args.forms.now c.args.at t c.in-Some.own.now h lt is c.in-Some.ensures.lookup.1)

pub returns-in-None : goal.returns-in-None
returns-in-None c = λ txs t h lt is. absurd (omega (arith, lt, as_many txs c.args.forms.now h, c.in-None.ensures.lookup))
