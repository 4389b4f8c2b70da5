use Rattle.std.proofs.Common.{◌≡◌, List, [], length, take, vec_len}
use Rattle.cbdc_model.specs.Records.{Compact}
use Rattle.shard_ranges.specs.Parts.{AreGrown, AreSplit}
use Rattle.shard_ranges.proofs.parts.add_inputs.Given as goal

-- the inputs so far are in their places
abbrev pub invariant-loop-x : goal.invariant-loop-x
invariant-loop-x l = record {
  count : vec_len l.parts ≡ l.shape.shards;
  items : l.x-items ≡ l.tx.inputs;
  grown : (txs : List Compact) → length txs ≡ l.place → AreSplit l.shape txs l.fn.parts.items
      → AreGrown l.shape txs l.place l.tx.id (take l.x-index l.tx.inputs) [] l.parts.items;
}
