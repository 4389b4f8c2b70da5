use Rattle.std.proofs.Common.{◌≡◌, ◌∙◌, ◌++◌, ◌∷◌, [], List, map, ap, sym, arith}
use Rattle.std.specs.List.{range_with_len}
use Rattle.std.proofs.lemmas.List.FromFn.{map-range_with_len_more}
use Rattle.cbdc_model.specs.Coins.{FullTx}
use Rattle.workload.specs.Generator.{split_of}
use Rattle.workload.proofs.spends.splits_of.Goals as goal

pub splits-preserved : goal.splits-preserved
splits-preserved c =
    c.in_ok-push.ensures.items
    ∙ ap (λ (xs : List FullTx). xs ++ c.in_ok-split.field-0 ∷ []) c.splits.invariant
    ∙ ap (λ (x : FullTx). map (split_of c.args.seed c.args.count c.args.genesis.now) (range_with_len 0 c.splits.i) ++ x ∷ []) (c.in_ok-split.ensures)
    ∙ sym (map-range_with_len_more (split_of c.args.seed c.args.count c.args.genesis.now) 0 c.splits.i c.splits.i (omega arith))
