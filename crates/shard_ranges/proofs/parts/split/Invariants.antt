use Rattle.std.proofs.Common.{◌≡◌, take, vec_len}
use Rattle.shard_ranges.specs.Parts.{AreSplit}
use Rattle.shard_ranges.proofs.parts.split.Given as goal

-- the parts of the transactions so far
abbrev pub invariant-loop-tx : goal.invariant-loop-tx
invariant-loop-tx l = record {
  count : vec_len l.parts ≡ l.shape.shards;
  place : l.place ≡ l.tx-index;
  split : AreSplit l.shape (take l.tx-index l.txs) l.parts.items;
}
