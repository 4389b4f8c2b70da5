use Rattle.std.proofs.Common.{◌∙◌, cond, is_some, Some, ap, sym}
use Rattle.base_types.specs.contracts.hash.HashPartialEq.TheImpl.{eq-value}
use Rattle.cbdc_model.specs.Coins.{tx_id}
use Rattle.audit.specs.Keeping.{first_with_id}
use Rattle.audit.proofs.Indexing.{index_known, index_new}
use Rattle.audit.proofs.handed.ById.note.Goals as goal

pub returns-then-contains_key : goal.returns-then-contains_key
returns-then-contains_key c = λ txs tx at id h.
    index_known txs tx _ h (ap (λ x. is_some (first_with_id c.args.self.now x)) (sym id) ∙ sym c.contains_key.ensures ∙ c.if-contains_key.true)

pub returns : goal.returns
returns c = λ txs tx at id h.
    index_new txs tx c.args.self.now _ h (ap (λ x. is_some (first_with_id c.args.self.now x)) (sym id) ∙ sym c.contains_key.ensures
    ∙ c.if-contains_key.false)
    (λ x.
    c.in_ok-insert.ensures.updates.0 x ∙ ap (λ y. cond (eq-value.it y x) (Some c.args.at) (first_with_id c.args.self.now x)) id
    ∙ ap (λ n. cond (eq-value.it (tx_id tx) x) (Some n) (first_with_id c.args.self.now x)) (sym at))
