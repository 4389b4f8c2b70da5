use Rattle.std.proofs.Common.{◌≡◌, ◌≤◌, ◌*◌, ◌-◌, ◌^◌, take, sum_by}
use Rattle.cbdc_model.specs.Money.{burnt_of}
use Rattle.audit.proofs.issuing.redeemed_by.Given as goal

abbrev pub invariant-outputs : goal.invariant-outputs
invariant-outputs l = (l.sum ≡ sum_by (λ x. burnt_of x) (take l.output-index l.tx.outputs)) × (l.sum ≤ l.output-index * (2 ^ 64 - 1))
