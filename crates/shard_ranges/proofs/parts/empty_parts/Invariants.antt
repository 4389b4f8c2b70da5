use Rattle.std.proofs.Common.{◌≡◌, [], vec_len}
use Rattle.shard_ranges.specs.Parts.{AreSplit}
use Rattle.shard_ranges.proofs.parts.empty_parts.Given as goal

-- so many parts with no entry
abbrev pub invariant-loop-shard : goal.invariant-loop-shard
invariant-loop-shard l = record {
  count : vec_len l.parts ≡ l._shard;
  empty : AreSplit l.shape [] l.parts.items;
}
