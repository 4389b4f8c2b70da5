use Rattle.std.proofs.Common.{◌≡◌, ◌&&◌, if◌then◌else◌, drop}
use Rattle.cbdc_model.specs.Records.{Digest}
use Rattle.cbdc_model.specs.Status.{has, returned_inputs, Unspent}
use Rattle.audit.specs.Standing.{says, is_here}
use Rattle.audit.proofs.statuses.Statuses.return_others.Given as goal

abbrev pub invariant-entries : goal.invariant-entries
invariant-entries l = (y : Digest) → (if has (returned_inputs (drop l.at l.es) (drop l.at l.ds)) y && is_here l.shape l.node y then Unspent
    else says l.self y)
    ≡ (if has (returned_inputs l.es l.ds) y && is_here l.shape l.node y then Unspent else says l.initial.self y)
