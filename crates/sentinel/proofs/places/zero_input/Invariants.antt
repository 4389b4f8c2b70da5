use Rattle.std.proofs.Common.{◌≡◌, ◌<◌, ◌≤◌, ◌*◌, ◌-◌, ◌^◌, ℕ, take, length}
use Rattle.std.specs.Prelude.{sum_by}
use Rattle.sentinel.specs.FirstRefusal.{HasAt, HasVerdict, Repeats}
use Rattle.sentinel.proofs.places.zero_input.Given as goal

abbrev pub invariant-inputs : goal.invariant-inputs
invariant-inputs l = (k : ℕ) → k < l.index → ¬ (HasAt (λ x. x.output.value ≡ 0) l.inputs k)
