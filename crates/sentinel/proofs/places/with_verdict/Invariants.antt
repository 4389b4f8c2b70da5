use Rattle.std.proofs.Common.{◌≡◌, ◌<◌, ◌≤◌, ◌*◌, ◌-◌, ◌^◌, ℕ, take, length}
use Rattle.std.specs.Prelude.{sum_by}
use Rattle.sentinel.specs.FirstRefusal.{HasAt, HasVerdict, Repeats}
use Rattle.sentinel.proofs.places.with_verdict.Given as goal

abbrev pub invariant-inputs : goal.invariant-inputs
invariant-inputs g l = (k : ℕ) → k < l.index → ¬ (HasVerdict l.wanted l.inputs (g.V.Verifier.verdict_of l.verifier l.id) k)
