use Rattle.std.proofs.Common.{◌≡◌, ◌&&◌, if◌then◌else◌, drop}
use Rattle.cbdc_model.specs.Records.{Digest}
use Rattle.cbdc_model.specs.Status.{has, made_outputs, Unspent}
use Rattle.audit.specs.Standing.{says, is_here}
use Rattle.audit.proofs.statuses.Statuses.make_committed.Given as goal

abbrev pub invariant-entries : goal.invariant-entries
invariant-entries l = (y : Digest) → (if has (made_outputs (drop l.at l.es) (drop l.at l.ds)) y && is_here l.shape l.node y then Unspent
    else says l.self y)
    ≡ (if has (made_outputs l.es l.ds) y && is_here l.shape l.node y then Unspent else says l.initial.self y)
