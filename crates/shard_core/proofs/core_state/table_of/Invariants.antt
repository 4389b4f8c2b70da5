use Rattle.std.proofs.Common.{◌≡◌, ◌+◌, ◌≤◌, ◌||◌, length, drop}
use Rattle.cbdc_model.specs.Records.{Digest}
use Rattle.cbdc_model.specs.Status.{has}
use Rattle.shard_core.proofs.core_state.table_of.Given as goal

-- the hashes so far are in the table, and there is room for the others
abbrev pub invariant-loop-x : goal.invariant-loop-x
invariant-loop-x l = record {
  room : length l.hashes ≤ l.x-index + l.table.spare;
  members : (y : Digest) → (has (drop l.x-index l.hashes) y || has l.table.hashes y) ≡ has l.hashes y;
}
