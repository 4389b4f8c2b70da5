use Rattle.std.proofs.Common.{◌≡◌, ◌≤◌, ◌*◌, ◌-◌, ◌^◌, take}
use Rattle.std.specs.Prelude.{sum_by}
use Rattle.cbdc_model.specs.Money.{issuable_of}
use Rattle.sentinel.proofs.permits.worth_claimed.Given as goal

abbrev pub invariant-inputs : goal.invariant-inputs
invariant-inputs l = (l.worth ≡ sum_by (λ x. issuable_of x.output) (take l.input-index l.inputs)) × (l.worth ≤ l.input-index * (2 ^ 64 - 1))
