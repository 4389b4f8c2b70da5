use Rattle.std.proofs.Common.{◌≡◌, ◌≤◌, ◌*◌, ◌-◌, ◌^◌, take, sum_by}
use Rattle.cbdc_model.specs.Money.{issuable_of}
use Rattle.audit.proofs.issuing.issuable_among.Given as goal

abbrev pub invariant-outputs : goal.invariant-outputs
invariant-outputs l = (l.sum ≡ sum_by (λ x. issuable_of x) (take l.output-index l.outputs)) × (l.sum ≤ l.output-index * (2 ^ 64 - 1))
