use Rattle.std.proofs.Common.{◌≡◌, ◌&&◌, ◌||◌, drop}
use Rattle.cbdc_model.specs.Records.{Digest}
use Rattle.cbdc_model.specs.Status.{has}
use Rattle.audit.specs.Standing.{says, is_here, is_locked_by}
use Rattle.audit.proofs.sizes.add_locked.Given as goal

abbrev pub invariant-hashes : goal.invariant-hashes
invariant-hashes l = (y : Digest) → (has l.held.hashes y
    || (has (drop l.at l.xs) y && (is_here l.shape l.node y && is_locked_by l.batch (says l.statuses y))))
    ≡ (has l.initial.held.hashes y || (has l.xs y && (is_here l.shape l.node y && is_locked_by l.batch (says l.statuses y))))
