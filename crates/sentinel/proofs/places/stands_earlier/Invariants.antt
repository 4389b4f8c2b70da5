use Rattle.std.proofs.Common.{◌≡◌, ◌<◌, ◌≤◌, ◌*◌, ◌-◌, ◌^◌, ℕ, take, length}
use Rattle.std.specs.Prelude.{sum_by}
use Rattle.sentinel.specs.FirstRefusal.{HasAt, HasVerdict, Repeats}
use Rattle.sentinel.proofs.places.stands_earlier.Given as goal

abbrev pub invariant-earlier : goal.invariant-earlier
invariant-earlier l = (k : ℕ) → k < l.index → ¬ (HasAt (λ y. y.point ≡ l.point) l.inputs k)
