use Rattle.std.proofs.Common.{◌≡◌, ℕ, List, subst}
use Rattle.cbdc_types.specs.Kinds.{kind_of}
use Rattle.cbdc_types.specs.declared.tx.Input.{Input}
use Rattle.cbdc_types.specs.declared.tx.Kind.TheVariants.{Burn}
use Rattle.sentinel.specs.FirstRefusal.{HasAt}
use Rattle.sentinel.proofs.Ranks.{no_burned_input}
use Rattle.sentinel.proofs.steps.spends_burned.Goals as goal

pub returns-in-None : goal.returns-in-None
returns-in-None c = λ v. no_burned_input c.args.tx.now v
    (subst (λ (xs : List Input). (i : ℕ) → ¬ (HasAt (λ x. kind_of x.output ≡ Burn) xs i)) c.as_slice.ensures c.in-None.ensures)
