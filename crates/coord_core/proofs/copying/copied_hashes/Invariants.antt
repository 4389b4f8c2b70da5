use Rattle.std.proofs.Common.{◌≡◌, take, length, vec_len, vec_capacity}
use Rattle.std.specs.Prelude.{All}
use Rattle.cbdc_model.specs.Grammar.{IsHash}
use Rattle.coord_core.proofs.copying.copied_hashes.Given as goal

abbrev pub invariant-loop-x : goal.invariant-loop-x
invariant-loop-x l = record {
  copied : l.copied.items ≡ take l.x-index l.hashes;
  sizes : All IsHash l.copied.items;
  count : vec_len l.copied ≡ l.x-index;
  room : vec_capacity l.copied ≡ length l.hashes;
}
