use Rattle.std.proofs.Common.{◌≡◌, ◌∙◌, ◌++◌, ◌∷◌, [], List, map, ap, sym, arith}
use Rattle.std.specs.List.{range_with_len}
use Rattle.std.proofs.lemmas.List.FromFn.{map-range_with_len_more}
use Rattle.cbdc_model.specs.Coins.{FullTx}
use Rattle.workload.specs.Generator.{join_of}
use Rattle.workload.proofs.spends.joins_of.Goals as goal

pub joins-preserved : goal.joins-preserved
joins-preserved c =
    c.in_ok-push.ensures.items
    ∙ ap (λ (xs : List FullTx). xs ++ c.in_ok-join.field-0 ∷ []) c.joins.invariant
    ∙ ap (λ (x : FullTx). map (join_of c.args.seed c.args.count c.args.genesis.now) (range_with_len 0 c.joins.i) ++ x ∷ []) (c.in_ok-join.ensures)
    ∙ sym (map-range_with_len_more (join_of c.args.seed c.args.count c.args.genesis.now) 0 c.joins.i c.joins.i (omega arith))
