use Rattle.std.proofs.Common.{◌≡◌, ◌&&◌, if◌then◌else◌, drop}
use Rattle.cbdc_model.specs.Records.{Digest}
use Rattle.cbdc_model.specs.Status.{has}
use Rattle.audit.specs.Standing.{says, is_here}
use Rattle.audit.proofs.statuses.Statuses.set_here.Given as goal

abbrev pub invariant-hashes : goal.invariant-hashes
invariant-hashes l = (y : Digest) → (if has (drop l.at l.xs) y && is_here l.shape l.node y then l.status else says l.self y)
    ≡ (if has l.xs y && is_here l.shape l.node y then l.status else says l.initial.self y)
