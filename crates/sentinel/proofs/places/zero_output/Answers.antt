use Rattle.std.proofs.Common.{rules, ◌≡◌}
use Rattle.cbdc_types.specs.declared.tx.Output.{Output}
use Rattle.sentinel.proofs.PlaceLemmas.{none_below, none_at_all}
use Rattle.sentinel.proofs.places.zero_output.Goals as goal

pub outputs-preserved : goal.outputs-preserved
outputs-preserved c = none_below (λ (o : Output). o.value ≡ 0) c.args.outputs.now c.outputs.index c.index-outputs-index.result c.outputs-test.true
    c.index-outputs-index.is (search rules) c.outputs.invariant

pub returns : goal.returns
returns c = none_at_all (λ (o : Output). o.value ≡ 0) c.args.outputs.now c.outputs.index c.outputs-test.false c.outputs.invariant
