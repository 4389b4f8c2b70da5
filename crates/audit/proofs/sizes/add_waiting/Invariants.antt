use Rattle.std.proofs.Common.{◌≡◌, ◌&&◌, ◌||◌, drop}
use Rattle.cbdc_model.specs.Records.{Digest}
use Rattle.cbdc_model.specs.Status.{has}
use Rattle.audit.specs.Standing.{says, is_here, is_locked_by}
use Rattle.audit.specs.Waiting.{waiting_inputs}
use Rattle.audit.proofs.sizes.add_waiting.Given as goal

abbrev pub invariant-entries : goal.invariant-entries
invariant-entries l = (y : Digest)
    → (has l.held.hashes y || (has (waiting_inputs l.outcomes (drop l.at l.es)) y
    && (is_here l.shape l.node y && is_locked_by l.batch (says l.standing.statuses y))))
    ≡ (has l.initial.held.hashes y || (has (waiting_inputs l.outcomes l.es) y
    && (is_here l.shape l.node y && is_locked_by l.batch (says l.standing.statuses y))))
