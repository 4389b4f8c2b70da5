use Rattle.std.proofs.Common.{◌≡◌, true, sym, subst, ◌∙◌, arith, eq-eqb, length}
use Rattle.std.proofs.lemmas.Bool.{eqb-true}
use Rattle.cbdc_model.specs.Grammar.{IsInGrammar}
use Rattle.record_log.proofs.Grammar.{spelled_so, is_read, same_read, no_fault}
use Rattle.record_log.proofs.reading.read_record.Goals as goal
use Rattle.record_log.proofs.reading.read_record.Goals.{else-is_empty-via-then-is_empty+else-is_in_grammar, else-is_empty-via-else-is_empty}

pub returns-then-is_in_grammar-clause-found : goal.returns-then-is_in_grammar-clause-found
returns-then-is_in_grammar-clause-found c =
    let spelled = spelled_so c.args.bytes.now c.in-Ok.record c.in-Ok.rest.now (λ i. omega (arith, c.type_inv.bytes i)) c.in-Ok.ensures
    (eqb-true _ _ (sym c.is_empty.ensures ∙ c.if-is_empty.true)) in
    (spelled, c.is_in_grammar.ensures.0 c.if-is_in_grammar.true)

pub returns-then-is_in_grammar-clause-only : goal.returns-then-is_in_grammar-clause-only
returns-then-is_in_grammar-clause-only c = λ r is.
    (same_read c.args.bytes.now c.in-Ok.record r c.in-Ok.rest.now c.in-Ok.ensures
    (is_read c.args.header.now c.args.bytes.now r c.batch-limit.ensures.limits is)).0

pub returns-else-is_empty-clause-only : goal.returns-else-is_empty-clause-only
returns-else-is_empty-clause-only c = λ r is.
    let same = same_read c.args.bytes.now c.in-Ok.record r c.in-Ok.rest.now c.in-Ok.ensures
    (is_read c.args.header.now c.args.bytes.now r c.batch-limit.ensures.limits is) in
    elim c.else-is_empty.branch [
      | else-is_empty-via-then-is_empty+else-is_in_grammar w ↦
          let stands : w.is_in_grammar.result ≡ true = w.is_in_grammar.ensures.1 (subst (IsInGrammar c.args.header.now) (sym same.0) is.1) in
          let fails = w.if-is_in_grammar.false in
          absurd (cc)
      | else-is_empty-via-else-is_empty w ↦
          let empty : c.is_empty.result ≡ true = c.is_empty.ensures ∙ eq-eqb (length c.in-Ok.rest.now) 0 same.1 in
          let fails = w.if-is_empty.false in
          absurd (cc)
    ]

pub returns-in-Err-Bad-clause-only : goal.returns-in-Err-Bad-clause-only
returns-in-Err-Bad-clause-only c = λ r is. no_fault c.args.bytes.now r c.in-Err-Bad.field-0-0 (rw c.in-Err-Bad.field-0-is at c.in-Err-Bad.ensures)
    (is_read c.args.header.now c.args.bytes.now r c.batch-limit.ensures.limits is)
