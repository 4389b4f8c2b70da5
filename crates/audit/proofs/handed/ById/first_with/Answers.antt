use Rattle.std.proofs.Common.{◌∙◌, sym}
use Rattle.audit.proofs.Indexing.{found_none, found_first}
use Rattle.audit.proofs.handed.ById.first_with.Goals as goal

pub returns-in_default : goal.returns-in_default
returns-in_default c = λ h. found_none c.args.txs.now c.args.self.now c.args.form.now h (sym c.in_default.ensures.value)

pub returns-then-has_form : goal.returns-then-has_form
returns-then-has_form c = λ h.
    found_first c.args.txs.now c.args.self.now c.args.form.now c.in-Some.at.now c.in-Some-get.first.now h (sym c.in-Some.ensures.value)
    c.in-Some-get.ensures.lookup.1
    (sym (c.has_form.ensures c.args.txs.now c.in-Some-get.first.now c.requires
    (h.inside c.args.form.now.id c.in-Some.at.now (sym c.in-Some.ensures.value)) c.in-Some-get.ensures.lookup.1) ∙ c.if-has_form.true)

pub returns : goal.returns
returns c = λ h. c.search.ensures
