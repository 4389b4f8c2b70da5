use Rattle.std.proofs.Common.{rules, ◌≡◌}
use Rattle.cbdc_types.specs.Kinds.{kind_of}
use Rattle.cbdc_types.specs.declared.tx.Input.{Input}
use Rattle.cbdc_types.specs.declared.tx.Kind.TheVariants.{Burn}
use Rattle.sentinel.proofs.PlaceLemmas.{none_below, none_at_all}
use Rattle.sentinel.proofs.places.burned_input.Goals as goal

pub inputs-preserved : goal.inputs-preserved
inputs-preserved c = none_below (λ (x : Input). kind_of x.output ≡ Burn) c.args.inputs.now c.inputs.index c.index-inputs-index.result
    c.inputs-test.true c.index-inputs-index.is (search rules) c.inputs.invariant

pub returns : goal.returns
returns c = none_at_all (λ (x : Input). kind_of x.output ≡ Burn) c.args.inputs.now c.inputs.index c.inputs-test.false c.inputs.invariant
