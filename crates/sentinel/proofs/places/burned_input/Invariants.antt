use Rattle.std.proofs.Common.{◌≡◌, ◌<◌, ℕ}
use Rattle.cbdc_types.specs.Kinds.{kind_of}
use Rattle.cbdc_types.specs.declared.tx.Kind.TheVariants.{Burn}
use Rattle.sentinel.specs.FirstRefusal.{HasAt}
use Rattle.sentinel.proofs.places.burned_input.Given as goal

abbrev pub invariant-inputs : goal.invariant-inputs
invariant-inputs l = (k : ℕ) → k < l.index → ¬ (HasAt (λ x. kind_of x.output ≡ Burn) l.inputs k)
