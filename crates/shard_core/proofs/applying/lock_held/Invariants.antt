use Rattle.std.proofs.Common.{◌≡◌, ◌≤◌, not, ◌&&◌, Some, if◌then◌else◌, length, drop}
use Rattle.cbdc_model.specs.Records.{Digest}
use Rattle.cbdc_model.specs.Status.{has, held_inputs}
use Rattle.shard_core.specs.Agrees.{holder_in}
use Rattle.shard_core.proofs.applying.lock_held.Given as goal

abbrev pub invariant-loop-answered : goal.invariant-loop-answered
invariant-loop-answered l = record {
  unspent : (y : Digest) → (not (has (held_inputs (drop l.answered-index l.entries)) y) && has l.unspent.hashes y)
      ≡ (not (has (held_inputs l.entries) y) && has l.fn.unspent.hashes y);
  locks : (y : Digest) → (if has (held_inputs (drop l.answered-index l.entries)) y then Some l.batch else holder_in l.locks.held y)
      ≡ (if has (held_inputs l.entries) y then Some l.batch else holder_in l.fn.locks.held y);
  spare : l.fn.unspent.spare ≤ l.unspent.spare;
  room : length (held_inputs (drop l.answered-index l.entries)) ≤ l.locks.spare;
}
