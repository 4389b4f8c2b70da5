use Rattle.std.proofs.Common.{◌≡◌, ◌+◌, ◌≤◌, not, ◌&&◌, Some, if◌then◌else◌, drop}
use Rattle.cbdc_model.specs.Records.{Digest}
use Rattle.cbdc_model.specs.Status.{has}
use Rattle.shard_core.specs.Agrees.{holder_in}
use Rattle.shard_core.proofs.applying.lock_all.Given as goal

abbrev pub invariant-loop-x : goal.invariant-loop-x
invariant-loop-x l = record {
  unspent : (y : Digest) → (not (has (drop l.x-index l.xs) y) && has l.unspent.hashes y) ≡ (not (has (l.xs) y) && has l.fn.unspent.hashes y);
  locks : (y : Digest) → (if has (drop l.x-index l.xs) y then Some l.batch else holder_in l.locks.held y)
      ≡ (if has (l.xs) y then Some l.batch else holder_in l.fn.locks.held y);
  spare : l.fn.unspent.spare ≤ l.unspent.spare;
  room : l.fn.locks.spare ≤ l.locks.spare + l.x-index;
}
