use Rattle.std.proofs.Common.{◌≡◌, ◌≤◌, ◌*◌, ◌-◌, ◌^◌, take}
use Rattle.std.specs.Prelude.{sum_by}
use Rattle.cbdc_model.specs.Money.{issuable_of}
use Rattle.sentinel.proofs.permits.worth_among.Given as goal

abbrev pub invariant-outputs : goal.invariant-outputs
invariant-outputs l = (l.worth ≡ sum_by (λ x. issuable_of x) (take l.output-index l.outputs)) × (l.worth ≤ l.output-index * (2 ^ 64 - 1))
