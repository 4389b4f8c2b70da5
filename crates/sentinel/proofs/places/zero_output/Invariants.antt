use Rattle.std.proofs.Common.{◌≡◌, ◌<◌, ◌≤◌, ◌*◌, ◌-◌, ◌^◌, ℕ, take, length}
use Rattle.std.specs.Prelude.{sum_by}
use Rattle.sentinel.specs.FirstRefusal.{HasAt, HasVerdict, Repeats}
use Rattle.sentinel.proofs.places.zero_output.Given as goal

abbrev pub invariant-outputs : goal.invariant-outputs
invariant-outputs l = (k : ℕ) → k < l.index → ¬ (HasAt (λ o. o.value ≡ 0) l.outputs k)
