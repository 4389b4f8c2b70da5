use Rattle.std.proofs.Common.{◌≡◌, ◌+◌, ◌-◌, ◌^◌, ◌≤◌, min, drop}
use Rattle.shard_core.specs.Moves.{hashes_in}
use Rattle.shard_core.proofs.applying.hash_count.Given as goal

-- the count so far, and what is still to come
abbrev pub invariant-loop-entry : goal.invariant-loop-entry
invariant-loop-entry l = record {
  fits : l.count ≤ 2 ^ 64 - 1;
  count : min (2 ^ 64 - 1) (l.count + hashes_in (drop l.entry-index l.entries)) ≡ min (2 ^ 64 - 1) (hashes_in l.entries);
}
