use Rattle.std.proofs.Common.{◌∙◌, ap, sym}
use Rattle.std.proofs.lemmas.List.{take_all}
use Rattle.cbdc_model.specs.History.{first_with}
use Rattle.audit.proofs.Indexing.{none_so_far, found_at}
use Rattle.audit.proofs.Spendings.{there}
use Rattle.audit.proofs.handed.search.Goals as goal

pub txs-preserved : goal.txs-preserved
txs-preserved c =
    let t = there c.args.txs.now c.txs.at c.txs-test.true in
    none_so_far c.args.txs.now c.args.form.now c.txs.at t.0 c.txs-test.true t.1 c.txs.invariant
    (sym (c.has_form.ensures c.args.txs.now t.0 c.requires c.txs-test.true t.1) ∙ c.if-has_form.false)

pub returns-then-has_form : goal.returns-then-has_form
returns-then-has_form c =
    found_at c.args.txs.now c.args.form.now c.txs.at c.index-txs-at.result c.txs-test.true c.index-txs-at.is c.txs.invariant
    (sym (c.has_form.ensures c.args.txs.now c.index-txs-at.result c.requires c.txs-test.true c.index-txs-at.is) ∙ c.if-has_form.true)

pub returns : goal.returns
returns c = ap (λ l. first_with l c.args.form.now) (sym (take_all c.txs.at c.args.txs.now c.txs-test.false)) ∙ c.txs.invariant
