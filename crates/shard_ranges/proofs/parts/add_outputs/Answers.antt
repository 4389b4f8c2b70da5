use Rattle.std.proofs.Common.{arith, subst, sym, ap, ◌∙◌, ◌≡◌, ◌<◌, ◌+◌, List, [], ◌++◌, ◌∷◌, take, set, get_or, refl, length}
use Rattle.std.proofs.lemmas.List.{take_more, take_all}
use Rattle.std.proofs.lemmas.Option.{slice_get_read}
use Rattle.cbdc_model.specs.Records.{Digest}
use Rattle.cbdc_model.specs.Ranges.{shard_of}
use Rattle.shard_ranges.specs.Parts.{AreGrown}
use Rattle.shard_ranges.proofs.Grows.{output_grows}
use Rattle.shard_ranges.proofs.parts.add_outputs.Goals as goal

pub loop-x-preserved : goal.loop-x-preserved
loop-x-preserved c = record {
  count = c.loop-x.invariant.count;
  items = c.loop-x.invariant.items;
  grown = λ txs e split.
      let items = c.as_slice-x-items.ensures in
      let lt : c.loop-x.x-index < length c.args.tx.now.outputs = subst (λ (xs : List Digest). c.loop-x.x-index < length xs) items c.loop-x-test.true
      in
      let more : take (c.loop-x.x-index + 1) c.args.tx.now.outputs ≡ take c.loop-x.x-index c.args.tx.now.outputs ++ c.x-item.result ∷ [] =
      take_more c.args.tx.now.outputs c.loop-x.x-index c.x-item.result lt
      ∙ ap (λ x. take c.loop-x.x-index c.args.tx.now.outputs ++ x ∷ [])
      (sym (c.x-item.is ∙ ap (λ xs. get_or xs c.loop-x.x-index c.x-item.result) items)) in
      let below : shard_of c.args.shape.now c.x-item.result < length c.loop-x.parts.items =
      omega (arith, c.shard_of-shard.ensures.value, c.shard_of-shard.ensures.below, c.loop-x.invariant.count, c.loop-x.parts.ok.0) in
      let at = slice_get_read c.loop-x.parts.items (length c.loop-x.parts.items) (shard_of c.args.shape.now c.x-item.result) c.index_mut.result.now refl below
      (c.index_mut.ensures.value ∙ ap (λ i. get_or c.loop-x.parts.items i c.index_mut.result.now) c.shard_of-shard.ensures.value) in
      let same = c.shard_of-shard.ensures.value in
      subst (λ xs. AreGrown c.args.shape.now txs c.args.place c.args.tx.now.id c.args.tx.now.inputs xs
      (set c.loop-x.parts.items c.shard_of-shard.result c.add_output.new.entries)) (sym more)
      (rw same (output_grows c.args.shape.now txs c.args.place c.args.tx.now.id c.x-item.result c.args.tx.now.inputs
      (take c.loop-x.x-index c.args.tx.now.outputs) c.loop-x.parts.items c.index_mut.result.now c.add_output.new.entries e
      (c.loop-x.invariant.grown txs e split) at c.in_ok-add_output.ensures));
}

pub returns-clause-grown : goal.returns-clause-grown
returns-clause-grown c txs e split =
    subst (λ xs. AreGrown c.args.shape.now txs c.args.place c.args.tx.now.id c.args.tx.now.inputs xs c.loop-x.parts.items)
    (take_all c.loop-x.x-index c.args.tx.now.outputs (omega (arith, ap length c.as_slice-x-items.ensures)))
    (c.loop-x.invariant.grown txs e split)
