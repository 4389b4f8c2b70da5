use Rattle.std.proofs.Common.{arith, sym, ap, subst, ◌∙◌, take, ◌++◌, ◌∷◌, []}
use Rattle.std.proofs.lemmas.Grind.{common_steps}
use Rattle.std.proofs.lemmas.List.{take_more}
use Rattle.std.proofs.lemmas.List.Elements.{All-push, All-same}
use Rattle.coord_core.specs.Hashes.{AreHashed}
use Rattle.coord_core.proofs.copying.copied_txs.Goals as goal

pub returns-clause-sizes : goal.returns-clause-sizes
returns-clause-sizes c = grind (arith, common_steps)

pub returns-clause-same : goal.returns-clause-same
returns-clause-same c = grind (arith, common_steps)

pub loop-tx-preserved : goal.loop-tx-preserved
loop-tx-preserved c = record {
  copied = c.push_reserved.ensures.items ∙ ap (λ ts. ts ++ c.in_ok-copied_tx.field-0 ∷ []) c.loop-tx.invariant.copied
      ∙ ap (λ t. take c.loop-tx.tx-index c.args.txs.now ++ t ∷ []) (c.in_ok-copied_tx.ensures.same ∙ c.tx-item.is)
      ∙ sym (take_more c.args.txs.now c.loop-tx.tx-index c.tx-item.result c.loop-tx-test.true);
  sizes = All-same AreHashed c.push_reserved.new.self.items _ c.push_reserved.ensures.items
      (All-push AreHashed c.loop-tx.copied.items _ c.loop-tx.invariant.sizes
      (subst AreHashed (sym c.in_ok-copied_tx.ensures.same) c.in_ok-copied_tx.ensures.sizes));
  count = omega arith;
  room = c.push_reserved.ensures.capacity ∙ c.loop-tx.invariant.room;
}
