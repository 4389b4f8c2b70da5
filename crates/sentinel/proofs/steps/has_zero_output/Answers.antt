use Rattle.std.proofs.Common.{◌≡◌, ℕ, List, subst}
use Rattle.cbdc_types.specs.declared.tx.Output.{Output}
use Rattle.sentinel.specs.FirstRefusal.{Repeats, HasAt}
use Rattle.sentinel.proofs.Ranks.{no_zero_output}
use Rattle.sentinel.proofs.steps.has_zero_output.Goals as goal

pub returns-in-None : goal.returns-in-None
returns-in-None c = λ v. no_zero_output c.args.tx.now v
    (subst (λ (xs : List Output). (i : ℕ) → ¬ (HasAt (λ o. o.value ≡ 0) xs i)) c.as_slice.ensures c.in-None.ensures)
