use Rattle.std.proofs.Common.{◌≡◌, ◌&&◌, if◌then◌else◌, drop}
use Rattle.cbdc_model.specs.Records.{Digest}
use Rattle.cbdc_model.specs.Status.{has, held_inputs, Locked}
use Rattle.audit.specs.Standing.{says, is_here}
use Rattle.audit.proofs.statuses.Statuses.lock_held.Given as goal

abbrev pub invariant-entries : goal.invariant-entries
invariant-entries l = (y : Digest) → (if has (held_inputs (drop l.at l.es)) y && is_here l.shape l.node y then Locked l.batch else says l.self y)
    ≡ (if has (held_inputs l.es) y && is_here l.shape l.node y then Locked l.batch else says l.initial.self y)
