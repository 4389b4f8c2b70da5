use Rattle.std.proofs.Common.{◌≡◌, ◌+◌, ◌≤◌, ◌||◌, None, if◌then◌else◌, drop}
use Rattle.cbdc_model.specs.Records.{Digest}
use Rattle.cbdc_model.specs.Status.{has}
use Rattle.shard_table.specs.Entries.{lookup}
use Rattle.shard_core.specs.Moves.{returned_where, inputs_in}
use Rattle.shard_core.proofs.applying.return_others.Given as goal

abbrev pub invariant-loop-at : goal.invariant-loop-at
invariant-loop-at l = record {
  unspent : (y : Digest) → (has (returned_where (drop l.at l.entries) (drop l.at l.replies) (drop l.at l.decisions)) y || has l.unspent.hashes y)
      ≡ (has (returned_where l.entries l.replies l.decisions) y || has l.fn.unspent.hashes y);
  locks : (y : Digest) → (if has (returned_where (drop l.at l.entries) (drop l.at l.replies) (drop l.at l.decisions)) y then None
      else lookup l.locks.held y) ≡ (if has (returned_where l.entries l.replies l.decisions) y then None else lookup l.fn.locks.held y);
  spare : l.fn.unspent.spare + inputs_in (drop l.at l.entries) ≤ l.unspent.spare + inputs_in l.entries;
}
