use Rattle.std.proofs.Common.{◌≡◌, ◌<◌, ◌≤◌, ◌*◌, ◌-◌, ◌^◌, ℕ, take, length}
use Rattle.std.specs.Prelude.{sum_by}
use Rattle.sentinel.specs.FirstRefusal.{HasAt, HasVerdict, Repeats}
use Rattle.sentinel.proofs.places.repeated.Given as goal

abbrev pub invariant-inputs : goal.invariant-inputs
invariant-inputs l = (k : ℕ) → k < l.index → ¬ (Repeats l.inputs k)
