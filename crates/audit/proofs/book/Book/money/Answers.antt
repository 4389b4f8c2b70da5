use Rattle.std.proofs.Common.{ap, arith, length, sum_by}
use Rattle.std.proofs.lemmas.List.Sums.{sum_by-cons}
use Rattle.cbdc_model.specs.Money.{money_of}
use Rattle.audit.proofs.book.Book.money.Goals as goal

pub overflow_add-money : goal.overflow_add-money
overflow_add-money c = omega (arith, ap length c.in-Some.ensures.steps, c.money_in-money.ensures.small, c.outputs.invariant.1)

pub outputs-preserved : goal.outputs-preserved
outputs-preserved c = (
  omega (
    arith,
    ap (sum_by money_of) c.in-Some.ensures.steps,
    sum_by-cons money_of c.in-Some.output.now c.next.new.self,
    c.money_in-money.ensures.value,
    c.outputs.invariant.0,
  ),
  omega (arith, ap length c.in-Some.ensures.steps, c.money_in-money.ensures.small, c.outputs.invariant.1),
)
