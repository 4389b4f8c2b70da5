use Rattle.std.proofs.Common.{◌≡◌, ◌≤◌, not, ◌&&◌, None, if◌then◌else◌, drop}
use Rattle.cbdc_model.specs.Records.{Digest}
use Rattle.cbdc_model.specs.Status.{has}
use Rattle.shard_table.specs.Entries.{lookup}
use Rattle.shard_core.proofs.applying.take_all.Given as goal

abbrev pub invariant-loop-x : goal.invariant-loop-x
invariant-loop-x l = record {
  unspent : (y : Digest) → (not (has (drop l.x-index l.xs) y) && has l.unspent.hashes y) ≡ (not (has (l.xs) y) && has l.fn.unspent.hashes y);
  locks : (y : Digest) → (if has (drop l.x-index l.xs) y then None else lookup l.locks.held y)
      ≡ (if has (l.xs) y then None else lookup l.fn.locks.held y);
  spare : l.fn.unspent.spare ≤ l.unspent.spare;
}
