use Rattle.std.proofs.Common.{◌∙◌, ◌++◌, [], ◌∷◌, ap, sym, subst, take, arith}
use Rattle.std.proofs.lemmas.List.{take_more, take_all, length-take-le}
use Rattle.audit.specs.Keeping.{IsIndex}
use Rattle.audit.proofs.Aside.{as_many, form_at}
use Rattle.audit.proofs.Indexing.{empty_index}
use Rattle.audit.proofs.Spendings.{there}
use Rattle.audit.proofs.handed.ById.of.Goals as goal

pub txs-init : goal.txs-init
txs-init c = empty_index _ c.in_ok-with_capacity.ensures.empty

pub bounds-forms-at : goal.bounds-forms-at
bounds-forms-at c = omega (arith, as_many c.args.txs.now c.args.forms.now c.requires)

pub txs-preserved : goal.txs-preserved
txs-preserved c =
    let t = there c.args.txs.now c.txs.at c.txs-test.true in
    let id = sym (ap (λ f. f.id) c.index-forms-at.is)
    ∙ ap (λ f. f.id) (form_at c.args.txs.now c.args.forms.now c.txs.at t.0 c.index-forms-at.result c.requires c.txs-test.true t.1
    c.index-forms-at.is) in
    subst (λ l. IsIndex l c.note.new.self)
    (sym (take_more c.args.txs.now c.txs.at t.0 c.txs-test.true ∙ ap (λ u. take c.txs.at c.args.txs.now ++ u ∷ []) (sym t.1)))
    (c.in_ok-note.ensures (take c.txs.at c.args.txs.now) t.0 (length-take-le c.txs.at c.args.txs.now (omega arith)) id c.txs.invariant)

pub returns : goal.returns
returns c = subst (λ l. IsIndex l c.txs.all) (take_all c.txs.at c.args.txs.now c.txs-test.false) c.txs.invariant
