use Rattle.std.proofs.Common.{◌≡◌, take, vec_len, vec_capacity, [], min}
use Rattle.coord_core.specs.Masks.{masks_of}
use Rattle.coord_core.proofs.lane.Lane.begin.Given as goal

abbrev pub invariant-loop-tx : goal.invariant-loop-tx
invariant-loop-tx l = record {
  masks : l.self-inside.masks.items ≡ masks_of l.shape (take l.tx-index l.txs);
  count : vec_len l.self-inside.masks ≡ l.tx-index;
  empty : l.self-inside.outcomes.items ≡ [];
  room : min (vec_capacity l.self-inside.masks) (vec_capacity l.self-inside.outcomes) ≡ l.fn.self.room;
}
