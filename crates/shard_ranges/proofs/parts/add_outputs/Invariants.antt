use Rattle.std.proofs.Common.{◌≡◌, List, [], length, take, vec_len}
use Rattle.cbdc_model.specs.Records.{Compact}
use Rattle.shard_ranges.specs.Parts.{AreGrown}
use Rattle.shard_ranges.proofs.parts.add_outputs.Given as goal

-- the outputs so far are in their places
abbrev pub invariant-loop-x : goal.invariant-loop-x
invariant-loop-x l = record {
  count : vec_len l.parts ≡ l.shape.shards;
  items : l.x-items ≡ l.tx.outputs;
  grown : (txs : List Compact) → length txs ≡ l.place → AreGrown l.shape txs l.place l.tx.id l.tx.inputs [] l.fn.parts.items
      → AreGrown l.shape txs l.place l.tx.id l.tx.inputs (take l.x-index l.tx.outputs) l.parts.items;
}
