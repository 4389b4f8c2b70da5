use Rattle.std.proofs.Common.{◌≡◌, ◌<◌, ◌≤◌, ◌*◌, ◌-◌, ◌^◌, ℕ, take, length}
use Rattle.std.specs.Prelude.{sum_by}
use Rattle.sentinel.specs.FirstRefusal.{HasAt, HasVerdict, Repeats}
use Rattle.sentinel.proofs.places.sum_of_inputs.Given as goal

abbrev pub invariant-inputs : goal.invariant-inputs
invariant-inputs l = (l.total ≡ sum_by (λ x. x.output.value) (take l.input-index l.inputs)) × (l.total ≤ l.input-index * (2 ^ 64 - 1))
