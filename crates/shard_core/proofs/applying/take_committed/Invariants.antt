use Rattle.std.proofs.Common.{◌≡◌, ◌≤◌, not, ◌&&◌, None, if◌then◌else◌, drop}
use Rattle.cbdc_model.specs.Records.{Digest}
use Rattle.cbdc_model.specs.Status.{has}
use Rattle.shard_table.specs.Entries.{lookup}
use Rattle.shard_core.specs.Moves.{inputs_where}
use Rattle.shard_core.proofs.applying.take_committed.Given as goal

abbrev pub invariant-loop-at : goal.invariant-loop-at
invariant-loop-at l = record {
  unspent : (y : Digest) → (not (has (inputs_where (drop l.at l.entries) (drop l.at l.decisions)) y) && has l.unspent.hashes y)
      ≡ (not (has (inputs_where l.entries l.decisions) y) && has l.fn.unspent.hashes y);
  locks : (y : Digest) → (if has (inputs_where (drop l.at l.entries) (drop l.at l.decisions)) y then None else lookup l.locks.held y)
      ≡ (if has (inputs_where l.entries l.decisions) y then None else lookup l.fn.locks.held y);
  spare : l.fn.unspent.spare ≤ l.unspent.spare;
}
