use Rattle.std.proofs.Common.{arith, sym, ap, subst, ◌∙◌, take, ◌++◌, ◌∷◌, []}
use Rattle.std.proofs.lemmas.Grind.{common_steps}
use Rattle.std.proofs.lemmas.List.{take_more}
use Rattle.std.proofs.lemmas.List.Elements.{All-push, All-same}
use Rattle.cbdc_model.specs.Grammar.{IsHash}
use Rattle.coord_core.proofs.copying.copied_hashes.Goals as goal

pub returns-clause-same : goal.returns-clause-same
returns-clause-same c = grind (arith, common_steps)

pub loop-x-preserved : goal.loop-x-preserved
loop-x-preserved c = record {
  copied = c.push_reserved.ensures.items ∙ ap (λ xs. xs ++ c.copied_hash.result ∷ []) c.loop-x.invariant.copied
      ∙ ap (λ x. take c.loop-x.x-index c.args.hashes.now ++ x ∷ []) (c.copied_hash.ensures.same ∙ c.x-item.is)
      ∙ sym (take_more c.args.hashes.now c.loop-x.x-index c.x-item.result c.loop-x-test.true);
  sizes = All-same IsHash c.push_reserved.new.self.items _ c.push_reserved.ensures.items
      (All-push IsHash c.loop-x.copied.items _ c.loop-x.invariant.sizes (subst IsHash (sym c.copied_hash.ensures.same) c.copied_hash.ensures.size));
  count = omega arith;
  room = c.push_reserved.ensures.capacity ∙ c.loop-x.invariant.room;
}

pub returns-clause-sizes : goal.returns-clause-sizes
returns-clause-sizes c = grind (arith, common_steps)
