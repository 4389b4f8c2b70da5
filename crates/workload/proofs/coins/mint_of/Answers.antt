use Rattle.std.proofs.Common.{◌≡◌, ◌∙◌, ◌++◌, ◌∷◌, [], List, map, ap, sym, arith}
use Rattle.std.specs.List.{range_with_len}
use Rattle.std.proofs.lemmas.List.FromFn.{map-range_with_len_more}
use Rattle.cbdc_model.specs.Coins.{Output}
use Rattle.workload.specs.Generator.{coin}
use Rattle.workload.proofs.coins.mint_of.Goals as goal

pub coins-preserved : goal.coins-preserved
coins-preserved c =
    c.in_ok-push.ensures.items
    ∙ ap (λ (xs : List Output). xs ++ c.coin.result ∷ []) c.coins.invariant
    ∙ ap (λ (x : Output). map (coin c.args.seed) (range_with_len 0 c.coins.i) ++ x ∷ []) (c.coin.ensures)
    ∙ sym (map-range_with_len_more (coin c.args.seed) 0 c.coins.i c.coins.i (omega arith))
