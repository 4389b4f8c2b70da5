use Rattle.std.proofs.Common.{ℕ, ap, arith, length, sum_by}
use Rattle.std.proofs.lemmas.List.Sums.{sum_by-cons}
use Rattle.cbdc_model.specs.Coins.{Output}
use Rattle.audit.proofs.book.Book.value.Goals as goal

pub overflow_add-value : goal.overflow_add-value
overflow_add-value c = omega (arith, ap length c.in-Some.ensures.steps, c.worth_of-value.ensures.small, c.outputs.invariant.1)

pub outputs-preserved : goal.outputs-preserved
outputs-preserved c =
    let f : Output → ℕ = λ o. o.value in (
      omega (
        arith,
        ap (sum_by f) c.in-Some.ensures.steps,
        sum_by-cons f c.in-Some.output.now c.next.new.self,
        c.worth_of-value.ensures.value,
        c.outputs.invariant.0,
      ),
      omega (arith, ap length c.in-Some.ensures.steps, c.worth_of-value.ensures.small, c.outputs.invariant.1),
    )
