use Rattle.std.proofs.Common.{◌≡◌, ◌≤◌, ◌*◌, ◌-◌, ◌^◌, take}
use Rattle.std.specs.Prelude.{sum_by}
use Rattle.cbdc_model.specs.Money.{permits_of}
use Rattle.sentinel.proofs.permits.permits_claimed.Given as goal

abbrev pub invariant-inputs : goal.invariant-inputs
invariant-inputs l = (l.count ≡ sum_by (λ x. permits_of x.output) (take l.input-index l.inputs)) × (l.count ≤ l.input-index)
