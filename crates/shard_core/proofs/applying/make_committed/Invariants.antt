use Rattle.std.proofs.Common.{◌≡◌, ◌+◌, ◌≤◌, ◌||◌, None, if◌then◌else◌, drop}
use Rattle.cbdc_model.specs.Records.{Digest}
use Rattle.cbdc_model.specs.Status.{has}
use Rattle.shard_table.specs.Entries.{lookup}
use Rattle.shard_core.specs.Moves.{outputs_where, outputs_in}
use Rattle.shard_core.proofs.applying.make_committed.Given as goal

abbrev pub invariant-loop-at : goal.invariant-loop-at
invariant-loop-at l = record {
  unspent : (y : Digest) → (has (outputs_where (drop l.at l.entries) (drop l.at l.decisions)) y || has l.unspent.hashes y)
      ≡ (has (outputs_where l.entries l.decisions) y || has l.fn.unspent.hashes y);
  locks : (y : Digest) → (if has (outputs_where (drop l.at l.entries) (drop l.at l.decisions)) y then None else lookup l.locks.held y)
      ≡ (if has (outputs_where l.entries l.decisions) y then None else lookup l.fn.locks.held y);
  spare : l.fn.unspent.spare + outputs_in (drop l.at l.entries) ≤ l.unspent.spare + outputs_in l.entries;
}
