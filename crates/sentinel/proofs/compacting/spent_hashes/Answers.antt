use Rattle.std.proofs.Common.{◌∷◌, [], ◌++◌, ◌∙◌, map, take, ap, sym}
use Rattle.std.proofs.lemmas.List.{map_more}
use Rattle.cbdc_model.specs.Coins.{coin_hash}
use Rattle.sentinel.proofs.compacting.spent_hashes.Goals as goal

pub inputs-preserved : goal.inputs-preserved
inputs-preserved c =
    let xs = c.args.inputs.now in
    let i = c.inputs.input-index in
    c.in_ok-push.ensures.items
    ∙ ap (λ hs. hs ++ c.spent_hash.result ∷ []) c.inputs.invariant
    ∙ ap (λ h. map coin_hash (take i xs) ++ h ∷ []) (c.spent_hash.ensures ∙ ap coin_hash c.input-item.is)
    ∙ sym (map_more coin_hash xs i c.input-item.result c.inputs-test.true)
