use Rattle.std.proofs.Common.{◌≡◌, ◌≤◌, ◌*◌, ◌-◌, ◌^◌, take}
use Rattle.std.specs.Prelude.{sum_by}
use Rattle.cbdc_model.specs.Money.{permits_of}
use Rattle.sentinel.proofs.permits.permits_among.Given as goal

abbrev pub invariant-outputs : goal.invariant-outputs
invariant-outputs l = (l.count ≡ sum_by (λ x. permits_of x) (take l.output-index l.outputs)) × (l.count ≤ l.output-index)
