use Rattle.std.proofs.Common.{◌≡◌, ℕ, List, subst}
use Rattle.cbdc_types.specs.declared.tx.Input.{Input}
use Rattle.sentinel.specs.FirstRefusal.{Repeats, HasAt}
use Rattle.sentinel.proofs.Ranks.{no_zero_input}
use Rattle.sentinel.proofs.steps.has_zero_input.Goals as goal

pub returns-in-None : goal.returns-in-None
returns-in-None c = λ v. no_zero_input c.args.tx.now v
    (subst (λ (xs : List Input). (i : ℕ) → ¬ (HasAt (λ x. x.output.value ≡ 0) xs i)) c.as_slice.ensures c.in-None.ensures)
