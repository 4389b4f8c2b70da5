use Rattle.std.proofs.Common.{◌≡◌, take, length, vec_len, vec_capacity}
use Rattle.std.specs.Prelude.{All}
use Rattle.coord_core.specs.Hashes.{AreHashed}
use Rattle.coord_core.proofs.copying.copied_txs.Given as goal

abbrev pub invariant-loop-tx : goal.invariant-loop-tx
invariant-loop-tx l = record {
  copied : l.copied.items ≡ take l.tx-index l.txs;
  sizes : All AreHashed l.copied.items;
  count : vec_len l.copied ≡ l.tx-index;
  room : vec_capacity l.copied ≡ length l.txs;
}
