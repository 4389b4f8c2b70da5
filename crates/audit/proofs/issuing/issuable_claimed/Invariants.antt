use Rattle.std.proofs.Common.{◌≡◌, ◌≤◌, ◌*◌, ◌-◌, ◌^◌, take, sum_by}
use Rattle.cbdc_model.specs.Money.{issuable_of}
use Rattle.audit.proofs.issuing.issuable_claimed.Given as goal

abbrev pub invariant-inputs : goal.invariant-inputs
invariant-inputs l = (l.sum ≡ sum_by (λ x. issuable_of x.output) (take l.input-index l.inputs)) × (l.sum ≤ l.input-index * (2 ^ 64 - 1))
