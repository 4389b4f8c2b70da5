use Rattle.std.proofs.Common.{◌≡◌, ◌+◌, ◌≤◌, ◌||◌, length, take}
use Rattle.cbdc_model.specs.Records.{Digest}
use Rattle.cbdc_model.specs.Status.{has}
use Rattle.shard_core.proofs.claiming.put_all.Given as goal

-- the inputs so far are put, and there is room for the others
abbrev pub invariant-loop-x : goal.invariant-loop-x
invariant-loop-x l = record {
  room : length l.hashes ≤ l.x-index + l.table.spare;
  members : (y : Digest) → has l.table.hashes y ≡ (has (take l.x-index l.hashes) y || has l.fn.table.hashes y);
}
